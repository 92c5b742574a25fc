-- What the functions that go gate by gate cite.
use Prim.Native.Nat.{ℕ, ◌+◌, ◌*◌, ◌/◌, ◌%◌, ◌≤◌, ◌<◌}
use mathlib.Core.Path.{◌≡◌, refl, sym, ap, ◌∙◌}
use mathlib.Core.Bool.{Bool, true, false, not}
use mathlib.Core.List.{List, [], ◌∷◌}
use mathlib.Core.Option.{none, some}
use native.Mathlib.Omega.{arith}
use denote.Enum.Declared.{tag_of}
use types.Run.{OneOf, miss}
use lib.Dec.{eqb}
use lib.ListN.{length, get_or}
use lib.Seq.{sets}
use Rattle.model.specs.Base.{if◌then◌otherwise◌}
use Rattle.model.specs.Kinds.{In, kind_at, kinds_opened}
use Rattle.model.specs.Circuit.{minus_one, source_of, has_source, is_watched}
use Rattle.kinds.specs.declared.Pin.{Pin}
use Rattle.kinds.specs.declared.Pin.TheVariants.{Exec, ExecOnly, Value, Watched, Route, Anything, Ticks, Seconds, Variable, Channel, Loop}
use Rattle.kinds.specs.Pins.{in_of}
use Rattle.kinds.specs.contracts.Pin.{the_type}
use Rattle.kinds.proofs.Laws.{few_inputs, few_outputs}
use Rattle.links.specs.Links.{packed, paired}
use Rattle.links.proofs.Reading.{listed_length}
use Rattle.linking.specs.Building.{written, below, Small, Gates, ins_at, outs_at, gate_cell, input_cell, input_cells, output_cells}
use Rattle.linking.proofs.Loops.{below_most}

-- ---- numbers that are small enough

pub word_small : (ws : List ℕ) (a g n m v : ℕ) → Small ws a n m → g < n → v ≡ get_or ws (a + g) 0 → v < m
word_small ws a g n m v s l e = let q = s g l in omega arith

pub entry_small : (es : List ℕ) (g n e : ℕ) → Gates es n → g < n → e ≡ get_or es g 0 → e < 64
entry_small es g n e s l q = let h = s g l in omega arith

-- ---- how many inputs and outputs a gate has

module _ (ws : List ℕ) (kinds : ℕ) where
  pub ins_of : (g k n : ℕ) → k ≡ get_or ws (kinds + g) 0 → n ≡ length (kind_at k).ins → n ≡ ins_at ws kinds g
  unfolding ins_at
  ins_of g k n e d = d ∙ ap (λ (j : ℕ). length (kind_at j).ins) e

  pub outs_of : (g k n : ℕ) → k ≡ get_or ws (kinds + g) 0 → n ≡ length (kind_at k).outs → n ≡ outs_at ws kinds g
  unfolding outs_at
  outs_of g k n e d = d ∙ ap (λ (j : ℕ). length (kind_at j).outs) e

  pub ins_at_most : (g : ℕ) → ins_at ws kinds g ≤ 10
  unfolding ins_at
  ins_at_most g = few_inputs (get_or ws (kinds + g) 0)

  pub outs_at_most : (g : ℕ) → outs_at ws kinds g ≤ 9
  unfolding outs_at
  outs_at_most g = few_outputs (get_or ws (kinds + g) 0)

  pub ins_below : (g x : ℕ) → x ≡ below (ins_at ws kinds) g → x ≤ 10 * g
  ins_below g x e = omega (arith, below_most (ins_at ws kinds) 10 ins_at_most g)

  pub outs_below : (g x : ℕ) → x ≡ below (outs_at ws kinds) g → x ≤ 9 * g
  outs_below g x e = omega (arith, below_most (outs_at ws kinds) 9 outs_at_most g)

  pub ins_small : (g n : ℕ) → n ≡ ins_at ws kinds g → n ≤ 10
  ins_small g n e = omega (arith, ins_at_most g)

  pub outs_small : (g n : ℕ) → n ≡ outs_at ws kinds g → n ≤ 9
  outs_small g n e = omega (arith, outs_at_most g)

  -- ---- the cell of a gate

  pub gate_is : (n g k w i e o v : ℕ) (es : List ℕ) → i ≡ below (ins_at ws kinds) g → o ≡ below (outs_at ws kinds) g → k ≡ get_or ws (kinds + g) 0 → w ≡ get_or ws (kinds + n + g) 0 →
      e ≡ get_or es g 0 → v ≡ packed (k + 256 * (w / 65536)) (w % 65536) (i + 1024 * e) o → v ≡ gate_cell ws kinds n es g
  unfolding gate_cell paired
  gate_is n g k w i e o v es ei eo ek ew ee q = rw (q, ei, eo, ek, ew, ee)

  -- ---- the cells of a gate's inputs and outputs

  pub outputs_size : (g n : ℕ) → n ≡ outs_at ws kinds g → n ≡ length (output_cells ws kinds g)
  unfolding output_cells
  outputs_size g n e = e ∙ sym (listed_length (outs_at ws kinds g) (λ p. g))

  pub outputs_are : (l l₁ : List ℕ) (base g n : ℕ) → n ≡ outs_at ws kinds g → l₁ ≡ written l base n (λ p. g) → l₁ ≡ sets l base (output_cells ws kinds g)
  unfolding output_cells
  outputs_are l l₁ base g n e q = q ∙ ap (λ (m : ℕ). written l base m (λ p. g)) e

  pub inputs_size : (sources g n : ℕ) → n ≡ ins_at ws kinds g → n ≡ length (input_cells ws kinds sources g)
  unfolding input_cells
  inputs_size sources g n e = e ∙ sym (listed_length (ins_at ws kinds g) (λ p. input_cell (get_or ws (kinds + g) 0) g (get_or ws (sources + below (ins_at ws kinds) g + p) 0) p))

  pub inputs_are : (l l₁ : List ℕ) (base sources g k i : ℕ) → i ≡ below (ins_at ws kinds) g → k ≡ get_or ws (kinds + g) 0 →
      l₁ ≡ written l base (length (kind_at k).ins) (λ p. input_cell k g (get_or ws (sources + i + p) 0) p) → l₁ ≡ sets l base (input_cells ws kinds sources g)
  unfolding input_cells ins_at
  inputs_are l l₁ base sources g k i ei ek e =
      e ∙ (λ j. written l base (length (kind_at (ek j)).ins) (λ p. input_cell (ek j) g (get_or ws (sources + ei j + p) 0) p))

-- ---- the cell of an input

-- there is a source where the word is not -1
driven : (w : ℕ) → not (eqb w minus_one) ≡ has_source (source_of w)
unfolding source_of has_source if◌then◌otherwise◌
driven w = go (eqb w minus_one)
  where
    go : (b : Bool) → not b ≡ has_source (if b then none otherwise some w)
    go true = refl
    go false = refl

-- which variant of the enum it is, counted from 0: Exec is 0, Watched 3
abbrev tag : Pin → ℕ
tag p = tag_of the_type p

pub watched_exec : (p : Pin) (i : In) (w : ℕ) → in_of p ≡ i → tag p ≡ 0 → not (eqb w minus_one) ≡ is_watched i (source_of w)
unfolding in_of is_watched kinds_opened
watched_exec Exec i w e t = rw (← e) (driven w)
watched_exec ExecOnly i w e t = absurd (omega arith)
watched_exec Value i w e t = absurd (omega arith)
watched_exec Watched i w e t = absurd (omega arith)
watched_exec Route i w e t = absurd (omega arith)
watched_exec Anything i w e t = absurd (omega arith)
watched_exec Ticks i w e t = absurd (omega arith)
watched_exec Seconds i w e t = absurd (omega arith)
watched_exec Variable i w e t = absurd (omega arith)
watched_exec Channel i w e t = absurd (omega arith)
watched_exec Loop i w e t = absurd (omega arith)

pub watched_always : (p : Pin) (i : In) (w : ℕ) → in_of p ≡ i → tag p ≡ 3 → true ≡ is_watched i (source_of w)
unfolding in_of is_watched kinds_opened
watched_always Exec i w e t = absurd (omega arith)
watched_always ExecOnly i w e t = absurd (omega arith)
watched_always Value i w e t = absurd (omega arith)
watched_always Watched i w e t = rw (← e)
watched_always Route i w e t = absurd (omega arith)
watched_always Anything i w e t = absurd (omega arith)
watched_always Ticks i w e t = absurd (omega arith)
watched_always Seconds i w e t = absurd (omega arith)
watched_always Variable i w e t = absurd (omega arith)
watched_always Channel i w e t = absurd (omega arith)
watched_always Loop i w e t = absurd (omega arith)

pub watched_never : (p : Pin) (i : In) (w : ℕ) → in_of p ≡ i → OneOf (1 ∷ 2 ∷ 4 ∷ 5 ∷ 6 ∷ 7 ∷ 8 ∷ 9 ∷ 10 ∷ []) (tag p) → false ≡ is_watched i (source_of w)
unfolding in_of is_watched kinds_opened
watched_never Exec i w e t = absurd (miss (1 ∷ 2 ∷ 4 ∷ 5 ∷ 6 ∷ 7 ∷ 8 ∷ 9 ∷ 10 ∷ []) 0 tt t)
watched_never ExecOnly i w e t = rw (← e)
watched_never Value i w e t = rw (← e)
watched_never Watched i w e t = absurd (miss (1 ∷ 2 ∷ 4 ∷ 5 ∷ 6 ∷ 7 ∷ 8 ∷ 9 ∷ 10 ∷ []) 3 tt t)
watched_never Route i w e t = rw (← e)
watched_never Anything i w e t = rw (← e)
watched_never Ticks i w e t = rw (← e)
watched_never Seconds i w e t = rw (← e)
watched_never Variable i w e t = rw (← e)
watched_never Channel i w e t = rw (← e)
watched_never Loop i w e t = rw (← e)

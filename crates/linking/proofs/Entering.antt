-- The entries that are found are those of the definition.
use Prim.Native.Nat.{ℕ, zero, suc, ◌+◌, ◌-◌, ◌≤◌, ◌<◌}
use mathlib.Core.Path.{◌≡◌, refl, sym, ap, ◌∙◌}
use mathlib.Core.Bool.{Bool, true, false, ◌&&◌}
use mathlib.Core.List.{List, ◌∷◌}
use native.Mathlib.Nat.{sub-zero}
use native.Mathlib.Omega.{arith}
use borrow.Author.Tests.{ne_eqb, eq-eqb, eqb-true, eqb-false}
use lib.Dec.{eqb}
use lib.ListN.{length, get_or, set, replicate, length-set, length-replicate, get_or-replicate}
use lib.Seq.{get_or-set_same, get_or-set_other}
use Rattle.model.specs.declared.Value.{Value}
use Rattle.model.specs.declared.Value.TheVariants.{Nothing, Int, Float, Bool as Truth}
use Rattle.model.specs.Base.{if◌then◌otherwise◌, keep, from}
use Rattle.model.specs.Value.{same}
use Rattle.model.proofs.Lists.{from_first, from_none}
use Rattle.links.proofs.Net.{first_kept}
use Rattle.linking.specs.Building.{below, Gates, ins_at, members, value_named, gate_of, gate_named, named_by, entered}

-- ---- what a gate names

pub entry_names : (kind : ℕ) (v : Value) (r : ℕ) → kind ≡ 30 → r ≡ gate_of v → r ≡ gate_named kind v
unfolding gate_named if◌then◌otherwise◌
entry_names kind v r h e = rw (eq-eqb kind 30 h) e

pub none_named : (kind : ℕ) (v : Value) → (kind ≡ 30 → ⊥) → 64 ≡ gate_named kind v
unfolding gate_named if◌then◌otherwise◌
none_named kind v h = rw (ne_eqb kind 30 h)

-- an Int that is a gate's number
same_gate : (v : Value) (g : ℕ) → g < 64 → same v (Int g) ≡ eqb (gate_of v) g
unfolding same gate_of
same_gate Nothing g l = sym (ne_eqb 64 g (λ e. omega arith))
same_gate (Int b) g l = refl
same_gate (Float b) g l = sym (ne_eqb 64 g (λ e. omega arith))
same_gate (Truth t) g l = sym (ne_eqb 64 g (λ e. omega arith))

-- so a gate names another in the definition exactly where it does here; what is stored is looked at only in an entry
pub names_gate : (kind g : ℕ) (v w : Value) → g < 64 → (kind ≡ 30 → v ≡ w) → (eqb kind 30 && same v (Int g)) ≡ eqb (gate_named kind w) g
unfolding gate_named if◌then◌otherwise◌
names_gate kind g v w l h = go (eqb kind 30) refl
  where
    go : (b : Bool) → eqb kind 30 ≡ b → (b && same v (Int g)) ≡ eqb (if b then gate_of w otherwise 64) g
    go true e = same_gate v g l ∙ ap (λ (x : Value). eqb (gate_of x) g) (h (eqb-true kind 30 e))
    go false e = sym (ne_eqb 64 g (λ e. omega arith))

-- ---- the loop

pub entered_next : (named : ℕ → ℕ) (es es₁ r : List ℕ) (e k : ℕ) → 0 < e → k ≡ named (e - 1) → es₁ ≡ set es k (e - 1) → entered named e es ≡ r → entered named (e - 1) es₁ ≡ r
unfolding entered
entered_next named es es₁ r zero k h ek e₁ q = absurd (omega arith)
entered_next named es es₁ r (suc e) k h ek e₁ q =
    let d : suc e - 1 ≡ e = omega arith in
    rw (e₁, ek, d) q

pub entered_last : (named : ℕ → ℕ) (es r : List ℕ) (e : ℕ) → e ≤ 0 → entered named e es ≡ r → es ≡ r
unfolding entered
entered_last named es r zero h q = q
entered_last named es r (suc e) h q = absurd (omega arith)

-- a running sum that goes back
pub below_back : (f : ℕ → ℕ) (x v k : ℕ) → 0 < k → x ≡ below f k → v ≡ f (k - 1) → (v ≤ x) × (x - v ≡ below f (k - 1))
unfolding below
below_back f x v zero h e d = absurd (omega arith)
below_back f x v (suc k) h e d =
    let s : suc k - 1 ≡ k = omega arith in
    let q : v ≡ f k = d ∙ ap f s in
    (omega arith, omega (arith, ap (below f) s))

pub named_is : (ws : List ℕ) (kinds stored K e i kind name g : ℕ) (v : Value) → i ≡ below (ins_at ws kinds) e → kind ≡ get_or ws (kinds + e) 0 → name ≡ get_or ws (stored + i) 0 →
    v ≡ value_named ws K name → g ≡ gate_named kind v → g ≡ named_by ws kinds stored K e
unfolding named_by
named_is ws kinds stored K e i kind name g v ei ek en ev eg = rw (eg, ev, ek, en, ei)

-- ---- what is found

-- the gates from j on that name g
abbrev rest : (ℕ → ℕ) → ℕ → ℕ → ℕ → List ℕ
rest named n j g = keep (λ e. eqb (named e) g) (from j (n - j))

-- so far as the gates from j on go
record Found (named : ℕ → ℕ) (n : ℕ) (es : List ℕ) (j : ℕ) : Type 0 where
  pub long : length es ≡ 64
  pub each : (g : ℕ) → g < 64 → get_or es g 0 ≡ get_or (rest named n j g) 0 0

-- one more gate
turn : (named : ℕ → ℕ) (n : ℕ) (es : List ℕ) (j : ℕ) → j < n → Found named n es (j + 1) → Found named n (set es (named j) j) j
unfolding keep if◌then◌otherwise◌
turn named n es j h m =
    record { long = length-set es (named j) j ∙ m.long; each = λ g l. rw (from_first j n h) (go g l (eqb (named j) g) refl) }
  where
    go :
        (g : ℕ) → g < 64 → (b : Bool) → eqb (named j) g ≡ b →
        get_or (set es (named j) j) g 0 ≡ get_or (if b then j ∷ rest named n (j + 1) g otherwise rest named n (j + 1) g) 0 0
    go g l true q =
        let s : named j ≡ g = eqb-true (named j) g q in
        let k : g < length es = omega (arith, m.long) in
        rw s (get_or-set_same es g j 0 k)
    go g l false q = get_or-set_other es (named j) g j 0 (λ s. eqb-false (named j) g q (sym s)) ∙ m.each g l

-- all gates below j more
found : (named : ℕ → ℕ) (n : ℕ) (es : List ℕ) (j : ℕ) → j ≤ n → Found named n es j → Found named n (entered named j es) 0
unfolding entered
found named n es zero h m = m
found named n es (suc j) h m =
    let e : suc j ≡ j + 1 = omega arith in
    found named n (set es (named j) j) j (omega arith) (turn named n es j h (rw e at m))

-- before the first
none_found : (named : ℕ → ℕ) (n : ℕ) → Found named n (replicate 64 0) n
unfolding keep
none_found named n =
    record {
      long = length-replicate {A = ℕ} 64 0;
      each = λ g l. rw (get_or-replicate {A = ℕ} 64 g 0 0 l, from_none n n (omega arith));
    }

all_found : (named : ℕ → ℕ) (n : ℕ) → Found named n (entered named n (replicate 64 0)) 0
all_found named n = found named n (replicate 64 0) n (omega arith) (none_found named n)

-- of each gate the first that names it
pub first_named : (named : ℕ → ℕ) (n g : ℕ) → g < 64 → get_or (entered named n (replicate 64 0)) g 0 ≡ get_or (members named n g) 0 0
unfolding members
first_named named n g l = rw (sub-zero n) at ((all_found named n).each g l)

-- and that is a gate
pub entries_small : (named : ℕ → ℕ) (n : ℕ) (es : List ℕ) → n ≤ 64 → es ≡ entered named n (replicate 64 0) → Gates es n
unfolding members
entries_small named n es h e g l = rw (e, first_named named n g (omega arith)) (first_kept 64 (λ e. eqb (named e) g) 0 n (omega arith) (omega arith))

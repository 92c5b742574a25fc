-- What is remembered of wires: last values, Unions passed, Breaks, runs of bodies, the tick, and Vars written; one law for each way out of a function.
use Rattle.std.proofs.Common.{◌≡◌, ℕ, zero, suc, ◌+◌, ◌-◌, ◌/◌, ◌%◌, ◌^◌, ◌<◌, ◌≤◌, min, Bool, true, false, not, ◌||◌, eqb, leb, List, map, length, get_or, take, drop, set, sym, refl, ap, ◌∙◌, ap₂, add-one, arith, drop_of_length-le, length-take, length-take-le, drop-cons, get_or-take, get_or-set_same, take-suc-set, eq-eqb, ne_eqb, le-leb}
use mathlib.Core.Bool.{or-true}
use mathlib.Core.Option.{none, some}
use borrow.Author.Tests.{lt-leb, leb-true, leb-false}
use lib.Bits.{bit_or}
use lib.ListN.{get_or-eq_default}
use lib.Seq.{set_out}
use Rattle.words.specs.Words.{words, Stored}
use Rattle.words.specs.Tables.{marked, digits}
use Rattle.words.proofs.Tables.{take_set, digits_length, digits_get, digits_none}
use Rattle.model.specs.declared.Value.{Value}
use Rattle.model.specs.declared.Value.TheVariants.{Nothing, Int, Float, Bool as Truth}
use Rattle.model.specs.Base.{if◌then◌otherwise◌, both, each, among, snoc}
use Rattle.model.specs.Value.{value_of, kind_of, content_of, plus64}
use Rattle.model.specs.Circuit.{Circuit, gate_at_output}
use Rattle.model.specs.State.{Wires, dirty≔, to_check≔, late_checks≔, last≔, written≔, written_outside≔, unions_passed≔, breaking≔, runs_left≔, times≔}
use Rattle.model.specs.Wires.{soil, watch, mark_readers_for}
use Rattle.model.specs.Exec.{write_once, record_write}
use Rattle.model.specs.Settle.{none_written, publish_write, publish_writes}
use Rattle.model.specs.Opening.{next_tick}
use Rattle.model.proofs.Lists.{if_both}
use Rattle.model.proofs.Sized.{mark_readers_for_keeps}
use Rattle.value.proofs.Laws.{made_again}
use Rattle.links.specs.Links.{cell, net}
use Rattle.links.proofs.Reading.{gates_counted}
use Rattle.wires.specs.View.{cut, last_of, Values, with_wires, values}
use Rattle.wires.proofs.Lists.{both_set, both_get}
use Rattle.wires.proofs.Area.{cut_poke, cut_peek, sized}
use Rattle.words.proofs.Tables.{digits_or}
use Rattle.wires.proofs.Leaves.{Counts, unmarked_at}
use Rattle.wires.proofs.Steps.{step, each_step}

-- ---- last values

-- the kind of a value is at most 3
pub kind_small : (v : Value) → kind_of v ≤ 3
unfolding kind_of
kind_small Nothing = omega arith
kind_small (Int b) = omega arith
kind_small (Float b) = omega arith
kind_small (Truth b) = omega arith

module _ (c : Circuit) (bs : List ℕ) (i n : ℕ) (en : Counts 640 n (length c.pins)) where
  last_few : length (values c bs).wires.last ≤ n
  unfolding values
  last_few = omega (arith, en.0, length-take (length c.pins) (both last_of (cut (words bs)).last_kinds (cut (words bs)).last_contents))

  last_word : (k b : ℕ) → 65536 ≤ length bs → i < n → k ≡ get_or (words bs) (2824 + i) 0 → b ≡ get_or (cut (words bs)).last_contents i 0 → get_or (values c bs).wires.last i none ≡ last_of k b
  unfolding values
  last_word k b l h ek eb =
      let t = cut (words bs) in
      let mk : length t.last_kinds ≡ 640 = sized bs 12 l (omega arith) (omega arith) in
      let mb : length t.last_contents ≡ 640 = sized bs 13 l (omega arith) (omega arith) in
      let pk : k ≡ get_or t.last_kinds i 0 = ek ∙ cut_peek (words bs) 12 i (omega arith) in
      get_or-take (length c.pins) (both last_of t.last_kinds t.last_contents) i none (omega (arith, en.0))
      ∙ both_get last_of t.last_kinds t.last_contents i 0 0 none (omega arith) (omega arith)
      ∙ sym (ap₂ last_of pk eb)

  pub last_past : n ≤ i → none ≡ get_or (values c bs).wires.last i none
  last_past h = sym (get_or-eq_default (values c bs).wires.last none {n = i} (omega (arith, last_few)))

  pub last_none : (k : ℕ) → 65536 ≤ length bs → i < n → k ≡ get_or (words bs) (2824 + i) 0 → k ≡ 0 → none ≡ get_or (values c bs).wires.last i none
  unfolding last_of
  last_none k l h ek z = sym (last_word k _ l h ek refl ∙ ap (λ (x : ℕ). last_of x (get_or (cut (words bs)).last_contents i 0)) z)

  pub last_some :
      (k b : ℕ) (v : Value) → 65536 ≤ length bs → i < n → k ≡ get_or (words bs) (2824 + i) 0 → (k ≡ 0 → ⊥) → b ≡ get_or (words bs) (3464 + i) 0 → v ≡ value_of (k - 1) b →
      some v ≡ get_or (values c bs).wires.last i none
  last_some k b v l h ek f eb ev = ap (λ (x : Value). some x) ev ∙ some_of k b f ∙ sym (last_word k b l h ek (eb ∙ cut_peek (words bs) 13 i (omega arith)))
    where
      some_of : (k b : ℕ) → (k ≡ 0 → ⊥) → some (value_of (k - 1) b) ≡ last_of k b
      some_of zero b f = absurd (f refl)
      some_of (suc k) b f = let e : suc k - 1 ≡ k = omega arith in rw e (unfold last_of in refl)

  pub set_last_in :
      (bs₁ bs₂ : List ℕ) (k b : ℕ) (v : Value) → i < n → k ≡ kind_of v → Stored bs bs₁ (2824 + i) (k + 1) → b ≡ content_of v → Stored bs₁ bs₂ (3464 + i) b →
      values c bs₂ ≡ with_wires (values c bs) (last≔ (values c bs).wires (set (values c bs).wires.last i (some v)))
  unfolding values last≔ last_of
  set_last_in bs₁ bs₂ k b v h ek e₁ eb e₂ =
      rw (
        e₂.words,
        cut_poke (words bs₁) 13 i b (omega arith),
        e₁.words,
        cut_poke (words bs) 12 i (k + 1) (omega arith),
        e₂.tail,
        e₁.tail,
        ek,
        eb,
        both_set last_of (cut (words bs)).last_kinds (cut (words bs)).last_contents i (kind_of v + 1) (content_of v),
        take_set (length c.pins) (both last_of (cut (words bs)).last_kinds (cut (words bs)).last_contents) i (last_of (kind_of v + 1) (content_of v)),
        add-one (kind_of v),
        made_again v,
      )

  pub set_last_past : (v : Value) → n ≤ i → values c bs ≡ with_wires (values c bs) (last≔ (values c bs).wires (set (values c bs).wires.last i (some v)))
  unfolding last≔
  set_last_past v h = rw (set_out (values c bs).wires.last i (some v) (omega (arith, last_few)))

-- ---- Unions passed

module _ (c : Circuit) (bs : List ℕ) where
  pub passed_word : (d : ℕ) → d ≡ get_or (words bs) 4 0 → digits (length c.kinds) d ≡ (values c bs).wires.unions_passed
  unfolding values
  passed_word d e = ap (digits (length c.kinds)) (e ∙ cut_peek (words bs) 4 0 (omega arith))

  module _ (bs₁ : List ℕ) (l : 65536 ≤ length bs) where
    pub passed_put : (x : ℕ) → Stored bs bs₁ 4 x → values c bs₁ ≡ with_wires (values c bs) (unions_passed≔ (values c bs).wires (digits (length c.kinds) x))
    unfolding values unions_passed≔
    passed_put x e =
        let m : length (cut (words bs)).unions_passed ≡ 1 = sized bs 4 l (omega arith) (omega arith) in
        rw (e.words, cut_poke (words bs) 4 0 x (omega arith), e.tail, get_or-set_same (cut (words bs)).unions_passed 0 x 0 (omega arith))

    pub passed_none : Stored bs bs₁ 4 0 → values c bs₁ ≡ with_wires (values c bs) (unions_passed≔ (values c bs).wires (map (λ _. false) (values c bs).wires.unions_passed))
    passed_none e = passed_put 0 e ∙ ap (λ (x : List Bool). with_wires (values c bs) (unions_passed≔ (values c bs).wires x)) none
      where
        none : digits (length c.kinds) 0 ≡ map (λ _. false) (values c bs).wires.unions_passed
        none = unfold values in sym (digits_none (length c.kinds) (get_or (cut (words bs)).unions_passed 0 0))

module _ (c : Circuit) (bs : List ℕ) (g n : ℕ) (en : Counts 64 n (length c.kinds)) where
  passed_length : length (values c bs).wires.unions_passed ≡ n
  unfolding values
  passed_length = digits_length _ _ ∙ sym en.0

  pub passed_in : (d : ℕ) → g < n → d ≡ get_or (words bs) 4 0 → marked (d / 2 ^ g % 2) ≡ get_or (values c bs).wires.unions_passed g false
  unfolding values
  passed_in d h e =
      rw (e ∙ cut_peek (words bs) 4 0 (omega arith)) (sym (digits_get (length c.kinds) (get_or (cut (words bs)).unions_passed 0 0) g false (omega (arith, en.0))))

  pub passed_past : n ≤ g → false ≡ get_or (values c bs).wires.unions_passed g false
  passed_past h = sym (get_or-eq_default (values c bs).wires.unions_passed false {n = g} (omega (arith, passed_length)))

  pub pass_in :
      (bs₁ : List ℕ) → 65536 ≤ length bs → g < n → Stored bs bs₁ 4 (bit_or (get_or (words bs) 4 0) (2 ^ g)) →
      values c bs₁ ≡ with_wires (values c bs) (unions_passed≔ (values c bs).wires (set (values c bs).wires.unions_passed g true))
  pass_in bs₁ l h s =
      passed_put c bs bs₁ l (bit_or (get_or (words bs) 4 0) (2 ^ g)) s
      ∙ ap (λ (x : List Bool). with_wires (values c bs) (unions_passed≔ (values c bs).wires x))
      (digits_or (length c.kinds) (get_or (words bs) 4 0) g ∙ ap (λ (x : List Bool). set x g true) (passed_word c bs (get_or (words bs) 4 0) refl))

  pub pass_past : n ≤ g → values c bs ≡ with_wires (values c bs) (unions_passed≔ (values c bs).wires (set (values c bs).wires.unions_passed g true))
  unfolding unions_passed≔
  pass_past h = rw (set_out (values c bs).wires.unions_passed g true (omega (arith, passed_length)))

-- ---- Breaks and runs of bodies

module _ (c : Circuit) (bs : List ℕ) where
  pub breaking_word : (x : ℕ) → x ≡ get_or (words bs) 5459 0 → marked x ≡ (values c bs).wires.breaking
  unfolding values
  breaking_word x e = ap marked (e ∙ cut_peek (words bs) 20 0 (omega arith))

  pub runs_word : (x : ℕ) → x ≡ get_or (words bs) 5460 0 → x ≡ (values c bs).wires.runs_left
  unfolding values
  runs_word x e = e ∙ cut_peek (words bs) 21 0 (omega arith)

  module _ (bs₁ : List ℕ) (l : 65536 ≤ length bs) where
    pub breaking_put : (b : Bool) (x : ℕ) → b ≡ marked x → Stored bs bs₁ 5459 x → values c bs₁ ≡ with_wires (values c bs) (breaking≔ (values c bs).wires b)
    unfolding values breaking≔
    breaking_put b x q e =
        let m : length (cut (words bs)).breaking ≡ 1 = sized bs 20 l (omega arith) (omega arith) in
        rw (e.words, cut_poke (words bs) 20 0 x (omega arith), e.tail, get_or-set_same (cut (words bs)).breaking 0 x 0 (omega arith), q)

    pub runs_put : (x : ℕ) → Stored bs bs₁ 5460 x → values c bs₁ ≡ with_wires (values c bs) (runs_left≔ (values c bs).wires x)
    unfolding values runs_left≔
    runs_put x e =
        let m : length (cut (words bs)).runs_left ≡ 1 = sized bs 21 l (omega arith) (omega arith) in
        rw (e.words, cut_poke (words bs) 21 0 x (omega arith), e.tail, get_or-set_same (cut (words bs)).runs_left 0 x 0 (omega arith))

-- ---- the next tick

pub tick_word : (c : Circuit) (bs : List ℕ) (t : ℕ) → t ≡ get_or (words bs) 0 0 → t ≡ (values c bs).wires.tick
unfolding values
tick_word c bs t e = e ∙ cut_peek (words bs) 0 0 (omega arith)

pub dt_word : (c : Circuit) (bs : List ℕ) (t : ℕ) → t ≡ get_or (words bs) 1 0 → t ≡ (values c bs).wires.dt
unfolding values
dt_word c bs t e = e ∙ cut_peek (words bs) 1 0 (omega arith)

pub ticked :
    (c : Circuit) (bs bs₁ bs₂ bs₃ bs₄ bs₅ : List ℕ) (t u x dt : ℕ) → 65536 ≤ length bs → t ≡ get_or (words bs) 0 0 → u ≡ get_or (words bs) 2 0 → Stored bs bs₁ 0 (t + 1) →
    Stored bs₁ bs₂ 1 dt → x ≡ plus64 u dt → Stored bs₂ bs₃ 2 x → Stored bs₃ bs₄ 4 0 → Stored bs₄ bs₅ 5460 100000 →
    values c bs₅ ≡ with_wires (values c bs) (next_tick (values c bs).wires dt)
unfolding values next_tick runs_left≔ unions_passed≔ times≔
ticked c bs bs₁ bs₂ bs₃ bs₄ bs₅ t u x dt l et eu e₁ e₂ ex e₃ e₄ e₅ =
    let r = cut (words bs) in
    let m₀ : length r.tick ≡ 1 = sized bs 0 l (omega arith) (omega arith) in
    let m₁ : length r.dt ≡ 1 = sized bs 1 l (omega arith) (omega arith) in
    let m₂ : length r.uptime ≡ 1 = sized bs 2 l (omega arith) (omega arith) in
    let m₄ : length r.unions_passed ≡ 1 = sized bs 4 l (omega arith) (omega arith) in
    let m₅ : length r.runs_left ≡ 1 = sized bs 21 l (omega arith) (omega arith) in
    let pt : t ≡ get_or r.tick 0 0 = et ∙ cut_peek (words bs) 0 0 (omega arith) in
    let pu : u ≡ get_or r.uptime 0 0 = eu ∙ cut_peek (words bs) 2 0 (omega arith) in
    rw (
      e₅.words,
      cut_poke (words bs₄) 21 0 100000 (omega arith),
      e₄.words,
      cut_poke (words bs₃) 4 0 0 (omega arith),
      e₃.words,
      cut_poke (words bs₂) 2 0 x (omega arith),
      e₂.words,
      cut_poke (words bs₁) 1 0 dt (omega arith),
      e₁.words,
      cut_poke (words bs) 0 0 (t + 1) (omega arith),
      e₅.tail,
      e₄.tail,
      e₃.tail,
      e₂.tail,
      e₁.tail,
      get_or-set_same r.tick 0 (t + 1) 0 (omega arith),
      get_or-set_same r.dt 0 dt 0 (omega arith),
      get_or-set_same r.uptime 0 x 0 (omega arith),
      get_or-set_same r.unions_passed 0 0 0 (omega arith),
      get_or-set_same r.runs_left 0 100000 0 (omega arith),
      ex,
      digits_none (length c.kinds) (get_or r.unions_passed 0 0),
      add-one t,
      ← pt,
      ← pu,
    )

-- ---- Vars written

-- how many of n words of a table are taken
few_written : (bs : List ℕ) (n : ℕ) → 65536 ≤ length bs → n ≤ 64 → length (take n (cut (words bs)).written) ≡ n
few_written bs n l h = let m : length (cut (words bs)).written ≡ 64 = sized bs 16 l (omega arith) (omega arith) in length-take-le n (cut (words bs)).written (omega arith)

module _ (bs : List ℕ) (n o k : ℕ) (l : (65536 ≤ length bs) × (n ≤ 64)) (h : k < n) (i : among o (drop k (take n (cut (words bs)).written)) ≡ among o (take n (cut (words bs)).written)) where
  written_here : (x : ℕ) → x ≡ get_or (words bs) (4689 + k) 0 → (eqb o x || among o (drop (suc k) (take n (cut (words bs)).written))) ≡ among o (take n (cut (words bs)).written)
  unfolding among
  written_here x e =
      let p : x ≡ get_or (take n (cut (words bs)).written) k 0 = e ∙ cut_peek (words bs) 16 k (omega arith) ∙ sym (get_or-take n (cut (words bs)).written k 0 h) in
      rw p (sym (ap (among o) (drop-cons (take n (cut (words bs)).written) k 0 (omega (arith, few_written bs n l.0 l.1)))) ∙ i)

  pub written_found : (x : ℕ) → x ≡ get_or (words bs) (4689 + k) 0 → x ≡ o → true ≡ among o (take n (cut (words bs)).written)
  written_found x e q = sym (ap (λ (b : Bool). b || among o (drop (suc k) (take n (cut (words bs)).written))) (eq-eqb o x (sym q))) ∙ written_here x e

  pub written_next : (x : ℕ) → x ≡ get_or (words bs) (4689 + k) 0 → (x ≡ o → ⊥) → among o (drop (k + 1) (take n (cut (words bs)).written)) ≡ among o (take n (cut (words bs)).written)
  written_next x e f =
      rw (add-one k) (sym (ap (λ (b : Bool). b || among o (drop (suc k) (take n (cut (words bs)).written))) (ne_eqb o x (λ q. f (sym q)))) ∙ written_here x e)

pub written_not :
    (bs : List ℕ) (n o k : ℕ) → (65536 ≤ length bs) × (n ≤ 64) → n ≤ k → among o (drop k (take n (cut (words bs)).written)) ≡ among o (take n (cut (words bs)).written) →
    false ≡ among o (take n (cut (words bs)).written)
unfolding among
written_not bs n o k l h i =
    let q = few_written bs n l.0 l.1 in
    let z : length (take n (cut (words bs)).written) ≤ k = omega arith in
    sym (ap (among o) (drop_of_length-le (take n (cut (words bs)).written) z)) ∙ i

module _ (c : Circuit) (bs : List ℕ) (n : ℕ) (l : 65536 ≤ length bs) (en : n ≡ get_or (words bs) 7 0) where
  written_are : (values c bs).wires.written ≡ take n (cut (words bs)).written
  unfolding values
  written_are = ap (λ (k : ℕ). take k (cut (words bs)).written) (sym (en ∙ cut_peek (words bs) 7 0 (omega arith)))

  written_many : 64 ≤ n → length (values c bs).wires.written ≡ 64
  written_many h =
      let m : length (cut (words bs)).written ≡ 64 = sized bs 16 l (omega arith) (omega arith) in
      ap (λ (x : List ℕ). length x) written_are ∙ length-take n (cut (words bs)).written ∙ omega arith

  written_few : n ≤ 64 → length (values c bs).wires.written ≡ n
  written_few h = ap (λ (x : List ℕ). length x) written_are ∙ few_written bs n l h

  pub counted : (m : ℕ) → m ≡ min n 64 → (m ≡ length (values c bs).wires.written) × (m ≤ 64)
  counted m e = go (leb 64 n) refl
    where
      go : (b : Bool) → leb 64 n ≡ b → (m ≡ length (values c bs).wires.written) × (m ≤ 64)
      go true h = let q = leb-true 64 n h in (omega (arith, written_many q), omega arith)
      go false h = let q = leb-false 64 n h in (omega (arith, written_few (omega arith)), omega arith)

  module _ (o : ℕ) where
    kept : (among o (values c bs).wires.written || leb 64 (length (values c bs).wires.written)) ≡ true → values c bs ≡ with_wires (values c bs) (write_once c (values c bs).wires o)
    unfolding write_once if◌then◌otherwise◌
    kept e = rw e

    pub write_full : 64 ≤ n → values c bs ≡ with_wires (values c bs) (write_once c (values c bs).wires o)
    write_full h =
        kept (ap (λ (b : Bool). among o (values c bs).wires.written || b) (le-leb 64 (length (values c bs).wires.written) (omega (arith, written_many h))) ∙ or-true (among o (values c bs).wires.written))

    module _ (r : Bool) (h : n < 64) (er : r ≡ among o (take n (cut (words bs)).written)) where
      pub write_again : r ≡ true → values c bs ≡ with_wires (values c bs) (write_once c (values c bs).wires o)
      write_again t = kept (ap (λ (b : Bool). b || leb 64 (length (values c bs).wires.written)) (ap (among o) written_are ∙ sym er ∙ t))

      one_more :
          (bs₁ bs₂ : List ℕ) → Stored bs bs₁ (4689 + n) o → Stored bs₁ bs₂ 7 (n + 1) → values c bs₂ ≡ with_wires (values c bs) (written≔ (values c bs).wires (snoc (values c bs).wires.written o))
      unfolding values written≔ snoc
      one_more bs₁ bs₂ e₁ e₂ =
          let t = cut (words bs) in
          let a : length t.written_count ≡ 1 = sized bs 7 l (omega arith) (omega arith) in
          let b : length t.written ≡ 64 = sized bs 16 l (omega arith) (omega arith) in
          let q : n ≡ get_or t.written_count 0 0 = en ∙ cut_peek (words bs) 7 0 (omega arith) in
          rw (
            e₂.words,
            cut_poke (words bs₁) 7 0 (n + 1) (omega arith),
            e₁.words,
            cut_poke (words bs) 16 n o (omega arith),
            e₂.tail,
            e₁.tail,
            get_or-set_same t.written_count 0 (n + 1) 0 (omega arith),
            add-one n,
            take-suc-set t.written n o (omega arith),
            ← q,
          )

      pub write_new :
          (bs₁ bs₂ : List ℕ) → r ≡ false → Stored bs bs₁ (4689 + n) o → Stored bs₁ bs₂ 7 (n + 1) → values c bs₂ ≡ with_wires (values c bs) (write_once c (values c bs).wires o)
      unfolding write_once if◌then◌otherwise◌
      write_new bs₁ bs₂ f e₁ e₂ =
          let a : among o (values c bs).wires.written ≡ false = ap (among o) written_are ∙ sym er ∙ f in
          let b : leb 64 (length (values c bs).wires.written) ≡ false = lt-leb 64 (length (values c bs).wires.written) (omega (arith, written_few (omega arith))) in
          rw (a, b) (one_more bs₁ bs₂ e₁ e₂)

-- ---- Vars written outside bodies

module _ (c : Circuit) (bs : List ℕ) (g n : ℕ) (en : Counts 64 n (length c.kinds)) where
  outside_length : length (values c bs).wires.written_outside ≡ n
  unfolding values
  outside_length = digits_length _ _ ∙ sym en.0

  pub outside_in : (o d : ℕ) → g ≡ gate_at_output c o → g < n → d ≡ get_or (words bs) 5458 0 → eqb (d / 2 ^ g % 2) 0 ≡ not (get_or (values c bs).wires.written_outside (gate_at_output c o) false)
  unfolding values
  outside_in o d eg h e =
      rw (e ∙ cut_peek (words bs) 19 0 (omega arith), ← eg) (unmarked_at (length c.kinds) g (get_or (cut (words bs)).written_outside 0 0) false (omega (arith, en.0)))

  pub outside_past : (o : ℕ) → g ≡ gate_at_output c o → n ≤ g → true ≡ not (get_or (values c bs).wires.written_outside (gate_at_output c o) false)
  outside_past o eg h = rw (← eg) (ap not (sym (get_or-eq_default (values c bs).wires.written_outside false {n = g} (omega (arith, outside_length)))))

module _ (l bs : List ℕ) (o g : ℕ) (inside : Bool) (q : inside ≡ false) (eg : g ≡ gate_at_output (net l) o) where
  -- one mark more
  abbrev outside_marked : Wires → Wires
  outside_marked w = if inside then w otherwise written_outside≔ w (set w.written_outside (gate_at_output (net l) o) true)

  pub mark_outside_in :
      (bs₁ : List ℕ) → 65536 ≤ length bs → Stored bs bs₁ 5458 (bit_or (get_or (words bs) 5458 0) (2 ^ g)) →
      values (net l) bs₁ ≡ with_wires (values (net l) bs) (outside_marked (values (net l) bs).wires)
  unfolding values written_outside≔ if◌then◌otherwise◌
  mark_outside_in bs₁ r s =
      let d = get_or (words bs) 5458 0 in
      let m : length (cut (words bs)).written_outside ≡ 1 = sized bs 19 r (omega arith) (omega arith) in
      let p : d ≡ get_or (cut (words bs)).written_outside 0 0 = cut_peek (words bs) 19 0 (omega arith) in
      rw (
        q,
        ← eg,
        s.words,
        cut_poke (words bs) 19 0 (bit_or d (2 ^ g)) (omega arith),
        s.tail,
        get_or-set_same (cut (words bs)).written_outside 0 (bit_or d (2 ^ g)) 0 (omega arith),
        digits_or (length (net l).kinds) d g,
        ← p,
      )

  -- no circuit has that gate
  pub mark_outside_past : 64 ≤ g → values (net l) bs ≡ with_wires (values (net l) bs) (outside_marked (values (net l) bs).wires)
  unfolding written_outside≔ if◌then◌otherwise◌
  mark_outside_past h =
      let n = gates_counted l (min (cell l 0) 64) refl in
      rw (q, ← eg, set_out (values (net l) bs).wires.written_outside g true (omega (arith, n.1, outside_length (net l) bs g _ n)))

pub mark_inside :
    (c : Circuit) (v : Values) (o : ℕ) (inside : Bool) → inside ≡ true →
    v ≡ with_wires v (if inside then v.wires otherwise written_outside≔ v.wires (set v.wires.written_outside (gate_at_output c o) true))
unfolding if◌then◌otherwise◌
mark_inside c v o inside q = rw q refl

pub recorded :
    (c : Circuit) (v v₁ v₂ : Values) (o : ℕ) (inside : Bool) →
    v₁ ≡ with_wires v (if inside then v.wires otherwise written_outside≔ v.wires (set v.wires.written_outside (gate_at_output c o) true)) →
    v₂ ≡ with_wires v₁ (write_once c v₁.wires o) → v₂ ≡ with_wires v (record_write c inside v.wires o)
unfolding record_write
recorded c v v₁ v₂ o inside e₁ e₂ = e₂ ∙ ap (λ (u : Values). with_wires u (write_once c u.wires o)) e₁

-- ---- publishing

pub published_one :
    (c : Circuit) (v v₁ : Values) (o : ℕ) (b : Bool) → b ≡ not (get_or v.wires.written_outside (gate_at_output c o) false) →
    v₁ ≡ with_wires v (mark_readers_for c b v.wires o) → v₁ ≡ with_wires v (publish_write c v.wires o)
unfolding publish_write
published_one c v v₁ o b eb e = e ∙ ap (λ (x : Bool). with_wires v (mark_readers_for c x v.wires o)) eb

mark_written : (c : Circuit) (w : Wires) (o : ℕ) → (publish_write c w o).written ≡ w.written
unfolding publish_write late_checks≔
mark_written c w o =
    mark_readers_for_keeps c (λ (v : Wires). v.written ≡ w.written) (λ v g e p. soiled v g ∙ p) (λ v i q p. watched v i ∙ p) _ (λ _ v i p. p) w o refl
  where
    soiled : (v : Wires) (g : ℕ) → (soil v g).written ≡ v.written
    soiled v g = unfold soil dirty≔ in refl

    watched : (v : Wires) (i : ℕ) → (watch v i).written ≡ v.written
    watched v i = unfold watch to_check≔ in if_both (λ (u : Wires). u.written ≡ v.written) _ refl refl

pub writes_first : (c : Circuit) (v : Values) → each (step (publish_write c)) v (drop 0 v.wires.written) ≡ with_wires v (each (publish_write c) v.wires v.wires.written)
writes_first c v = each_step (publish_write c) v v.wires.written

pub writes_kept : (c : Circuit) (v v₁ : Values) (o : ℕ) (ws : List ℕ) → v₁ ≡ with_wires v (publish_write c v.wires o) → v.wires.written ≡ ws → v₁.wires.written ≡ ws
writes_kept c v v₁ o ws e h = ap (λ (x : Values). x.wires.written) e ∙ mark_written c v.wires o ∙ h

written_at : (c : Circuit) (bs : List ℕ) (k : ℕ) → k < length (values c bs).wires.written → get_or (cut (words bs)).written k 0 ≡ get_or (values c bs).wires.written k 0
unfolding values
written_at c bs k h =
    let n = get_or (cut (words bs)).written_count 0 0 in
    sym (get_or-take n (cut (words bs)).written k 0 (omega (arith, length-take n (cut (words bs)).written)))

pub writes_next :
    (c : Circuit) (bs : List ℕ) (v₁ x : Values) (n k o : ℕ) (ws : List ℕ) → (n ≡ length ws) × (n ≤ 64) → k < n → (values c bs).wires.written ≡ ws →
    o ≡ get_or (words bs) (4689 + k) 0 → v₁ ≡ with_wires (values c bs) (publish_write c (values c bs).wires o) →
    each (step (publish_write c)) (values c bs) (drop k ws) ≡ x → each (step (publish_write c)) v₁ (drop (k + 1) ws) ≡ x
unfolding each
writes_next c bs v₁ x n k o ws en h ew eo e₁ i =
    let p : o ≡ get_or ws k 0 = eo ∙ cut_peek (words bs) 16 k (omega (arith, en.1)) ∙ written_at c bs k (omega (arith, en.0, ap (λ (y : List ℕ). length y) ew)) ∙ ap (λ (y : List ℕ). get_or y k 0) ew in
    rw (add-one k) (ap (λ (u : Values). each (step (publish_write c)) u (drop (suc k) ws)) (e₁ ∙ ap (λ (y : ℕ). with_wires (values c bs) (publish_write c (values c bs).wires y)) p)
    ∙ sym (ap (each (step (publish_write c)) (values c bs)) (drop-cons ws k 0 (omega (arith, en.0)))) ∙ i)

pub writes_last : (c : Circuit) (v x : Values) (n k : ℕ) (ws : List ℕ) → (n ≡ length ws) × (n ≤ 64) → n ≤ k → each (step (publish_write c)) v (drop k ws) ≡ x → v ≡ x
unfolding each
writes_last c v x n k ws en h i =
    let z : length ws ≤ k = omega (arith, en.0) in
    sym (ap (each (step (publish_write c)) v) (drop_of_length-le ws z)) ∙ i

emptied : (c : Circuit) (bs bs₁ bs₂ : List ℕ) → 65536 ≤ length bs → Stored bs bs₁ 7 0 → Stored bs₁ bs₂ 5458 0 → values c bs₂ ≡ with_wires (values c bs) (none_written (values c bs).wires)
unfolding values none_written written≔ written_outside≔
emptied c bs bs₁ bs₂ l e₁ e₂ =
    let m : length (cut (words bs)).written_count ≡ 1 = sized bs 7 l (omega arith) (omega arith) in
    let k : length (cut (words bs)).written_outside ≡ 1 = sized bs 19 l (omega arith) (omega arith) in
    rw (
      e₂.words,
      cut_poke (words bs₁) 19 0 0 (omega arith),
      e₁.words,
      cut_poke (words bs) 7 0 0 (omega arith),
      e₂.tail,
      e₁.tail,
      get_or-set_same (cut (words bs)).written_count 0 0 0 (omega arith),
      get_or-set_same (cut (words bs)).written_outside 0 0 0 (omega arith),
      digits_none (length c.kinds) (get_or (cut (words bs)).written_outside 0 0),
    )

pub published :
    (c : Circuit) (bs bs₁ bs₂ bs₃ : List ℕ) → 65536 ≤ length bs₁ → values c bs₁ ≡ with_wires (values c bs) (each (publish_write c) (values c bs).wires (values c bs).wires.written) →
    Stored bs₁ bs₂ 7 0 → Stored bs₂ bs₃ 5458 0 → values c bs₃ ≡ with_wires (values c bs) (publish_writes c (values c bs).wires)
unfolding publish_writes
published c bs bs₁ bs₂ bs₃ l e₁ e₂ e₃ = emptied c bs₁ bs₂ bs₃ l e₂ e₃ ∙ ap (λ (v : Values). with_wires v (none_written v.wires)) e₁

-- Taking the input that waits longest, and what the last check read.
use Rattle.std.proofs.Common.{◌≡◌, ℕ, ◌+◌, ◌-◌, ◌%◌, ◌<◌, ◌≤◌, Bool, false, List, ◌∷◌, map, length, get_or, sym, ap, ◌∙◌, arith, get_or-set_same}
use mathlib.Core.Option.{none, some}
use lib.Seq.{set_out}
use Rattle.words.specs.Words.{words, Stored}
use Rattle.words.specs.Tables.{marked, ring}
use Rattle.words.proofs.Tables.{take_set, map_marked_set, ring_length, ring_pop}
use Rattle.model.specs.Circuit.{Circuit}
use Rattle.model.specs.State.{Wires, to_check≔, late_checks≔}
use Rattle.model.specs.Settle.{taken}
use Rattle.wires.specs.View.{cut, Values, with_wires, values}
use Rattle.wires.specs.Checks.{oldest, oldest_check, oldest_taken}
use Rattle.wires.proofs.Area.{cut_poke, cut_peek, sized}
use Rattle.wires.proofs.Leaves.{Counts, queued_few, late_few}

took_oldest :
    (w : Wires) (i : ℕ) (is : List ℕ) → w.to_check ≡ i ∷ is → some (record { input = i; late = get_or w.late_checks i false }) ≡ oldest_check w
unfolding oldest oldest_check
took_oldest w i is e = rw (e, oldest, oldest_check)

took_rest : (w : Wires) (i : ℕ) (is : List ℕ) → w.to_check ≡ i ∷ is → taken w i is ≡ oldest_taken w
unfolding oldest_taken taken to_check≔ late_checks≔
took_rest w i is e = rw (e, oldest_taken)

module _ (c : Circuit) (bs : List ℕ) (i n : ℕ) (en : Counts 640 n (length c.pins)) where
  pub unqueue_in :
      (bs₁ bs₂ : List ℕ) → i < n → Stored bs bs₁ (1160 + i) 0 → Stored bs₁ bs₂ (4818 + i) 0 →
      values c bs₂ ≡ with_wires (values c bs) (taken (values c bs).wires i (values c bs).wires.to_check)
  unfolding values taken to_check≔ late_checks≔
  unqueue_in bs₁ bs₂ h e₁ e₂ =
      rw (
        e₂.words,
        cut_poke (words bs₁) 18 i 0 (omega arith),
        e₁.words,
        cut_poke (words bs) 10 i 0 (omega arith),
        e₂.tail,
        e₁.tail,
        map_marked_set (cut (words bs)).queued i 0,
        take_set (length c.pins) (map marked (cut (words bs)).queued) i false,
        map_marked_set (cut (words bs)).late_checks i 0,
        take_set (length c.pins) (map marked (cut (words bs)).late_checks) i false,
      )

  pub unqueue_past : n ≤ i → values c bs ≡ with_wires (values c bs) (taken (values c bs).wires i (values c bs).wires.to_check)
  unfolding taken to_check≔ late_checks≔
  unqueue_past h =
      rw (
        set_out (values c bs).wires.queued i false (omega (arith, queued_few c bs i n en)),
        set_out (values c bs).wires.late_checks i false (omega (arith, late_few c bs i n en)),
      )

module _ (c : Circuit) (bs : List ℕ) (n : ℕ) (l : 65536 ≤ length bs) (en : n ≡ get_or (words bs) 6 0) where
  pub so_many_wait : n ≡ length (values c bs).wires.to_check
  unfolding values
  so_many_wait = en ∙ cut_peek (words bs) 6 0 (omega arith) ∙ sym (ring_length _ _ (cut (words bs)).slots)

  pub take_none : n ≡ 0 → (none ≡ oldest_check (values c bs).wires) × (values c bs ≡ with_wires (values c bs) (oldest_taken (values c bs).wires))
  unfolding values ring oldest oldest_check oldest_taken
  take_none z =
      let p : get_or (cut (words bs)).count 0 0 ≡ 0 = sym (cut_peek (words bs) 6 0 (omega arith)) ∙ sym en ∙ z in
      (rw p, rw p)

  module _ (p i : ℕ) (z : n ≡ 0 → ⊥) (ep : p ≡ get_or (words bs) 5 0) (ei : i ≡ get_or (words bs) (1800 + p % 1024) 0) where
    -- what waits is i and the rest
    waits : (values c bs).wires.to_check ≡ i ∷ ring (n - 1) (p % 1024 + 1) (cut (words bs)).slots
    unfolding values
    waits =
        let a : n ≡ get_or (cut (words bs)).count 0 0 = en ∙ cut_peek (words bs) 6 0 (omega arith) in
        let b : p ≡ get_or (cut (words bs)).head 0 0 = ep ∙ cut_peek (words bs) 5 0 (omega arith) in
        let r : i ≡ get_or (cut (words bs)).slots (p % 1024) 0 = ei ∙ cut_peek (words bs) 11 (p % 1024) (omega arith) in
        rw (← a, ← b) (ring_pop n p (cut (words bs)).slots z ∙ ap (λ (x : ℕ). x ∷ ring (n - 1) (p % 1024 + 1) (cut (words bs)).slots) (sym r))

    module _ (bs₁ bs₂ : List ℕ) (e₁ : Stored bs bs₁ 5 (p % 1024 + 1)) (e₂ : Stored bs₁ bs₂ 6 (n - 1)) where
      moved : values c bs₂ ≡ with_wires (values c bs) (to_check≔ (values c bs).wires (ring (n - 1) (p % 1024 + 1) (cut (words bs)).slots) (values c bs).wires.queued)
      unfolding values to_check≔
      moved =
          let a : length (cut (words bs)).count ≡ 1 = sized bs 6 l (omega arith) (omega arith) in
          let b : length (cut (words bs)).head ≡ 1 = sized bs 5 l (omega arith) (omega arith) in
          rw (
            e₂.words,
            cut_poke (words bs₁) 6 0 (n - 1) (omega arith),
            e₁.words,
            cut_poke (words bs) 5 0 (p % 1024 + 1) (omega arith),
            e₂.tail,
            e₁.tail,
            get_or-set_same (cut (words bs)).count 0 (n - 1) 0 (omega arith),
            get_or-set_same (cut (words bs)).head 0 (p % 1024 + 1) 0 (omega arith),
          )

      pub take_some :
          (v : Values) (b : Bool) → b ≡ get_or (values c bs₂).wires.late_checks i false →
          v ≡ with_wires (values c bs₂) (taken (values c bs₂).wires i (values c bs₂).wires.to_check) →
          (some (record { input = i; late = b }) ≡ oldest_check (values c bs).wires) × (v ≡ with_wires (values c bs) (oldest_taken (values c bs).wires))
      unfolding taken to_check≔ late_checks≔
      take_some v b eb e = (
        ap (λ (x : Bool). some (record { input = i; late = x })) (eb ∙ ap (λ (u : Values). get_or u.wires.late_checks i false) moved)
            ∙ took_oldest (values c bs).wires i _ waits,
        e ∙ ap (λ (u : Values). with_wires u (taken u.wires i u.wires.to_check)) moved ∙ ap (with_wires (values c bs)) (took_rest (values c bs).wires i _ waits),
      )

-- A whole call: turned away, or each script answered.
use Prim.Native.Nat.{ℕ, zero, suc}
use mathlib.Core.Path.{◌≡◌, refl, sym, ap, ◌∙◌}
use mathlib.Core.Bool.{Bool, true, false}
use mathlib.Core.List.{List, [], ◌∷◌, map}
use mathlib.Core.Option.{some}
use native.Mathlib.Omega.{arith}
use lib.ListN.{length}
use Rattle.model.specs.Base.{if◌then◌otherwise◌, from}
use Rattle.model.specs.Questions.{circuit_refusal}
use Rattle.model.specs.Answer.{Answer, answer}
use Rattle.model.specs.Book.{count, good_book, entry, entries, part_of}
use Rattle.model.specs.Several.{Several, turned_away, answered, call_number, call_log, call_told}
use Rattle.model.specs.Class.{most_scripts, no_book, class_refusal, class_to, class, class_area}
use Rattle.promises.proofs.Promises.{promised}
use Rattle.model.proofs.Classes.{class_numbers}
use Rattle.circuit.proofs.Order.{first_number, later_number}
use Rattle.class.specs.Call.{Call, Left, lent, part_size, class_answer, Right}
use Rattle.class.specs.Scripts.{answer_of, first_answers, SoFar}

-- each script's answer
pub each_answer :
    (k : Call) (size : ℕ) (xs : List ℕ) → map (answer_of k size) xs ≡ map (answer (lent k) size k.circuit) (map (entry k.book) xs)
each_answer k size [] = refl
each_answer k size (x ∷ xs) = ap (λ (l : List Answer). answer_of k size x ∷ l) (each_answer k size xs)

module _ (k : Call) where
  away : (m : ℕ) → m ≡ class_refusal (lent k) k.circuit k.book → (m ≡ 0 → ⊥) → class_answer k ≡ turned_away m
  unfolding class class_to
  away m e f = ap (λ (x : ℕ). class_to x (lent k) (length k.log) k.circuit k.book) (sym e) ∙ go m f
    where
      go : (m : ℕ) → (m ≡ 0 → ⊥) → class_to m (lent k) (length k.log) k.circuit k.book ≡ turned_away m
      go zero f = absurd (f refl)
      go (suc m) f = refl

  -- a call that is turned away leaves all as it was
  left : (m : ℕ) → class_answer k ≡ turned_away m → Right k (record { log = k.log; values = k.values; units = k.units; delays = k.delays; told = k.told }) m
  unfolding call_number call_told call_log class_area
  left m x =
      record {
        number = rw x refl;
        told = rw x refl;
        log = rw x refl;
        values = rw x refl;
        units = rw x refl;
        delays = rw x refl;
        numbers = class_numbers _ _ _ _;
        promised = λ i l. promised _ _ _ _;
      }

  module _ (n : ℕ) (e : n ≡ circuit_refusal (some (lent k)) k.circuit) where
    -- by the circuit
    pub class_refused : (n ≡ 0 → ⊥) → Right k (record { log = k.log; values = k.values; units = k.units; delays = k.delays; told = k.told }) n
    unfolding class_refusal
    class_refused f = left n (away n (first_number n _ _ e f) f)

    module _ (z : n ≡ 0) (t : Bool) (b : t ≡ good_book most_scripts k.book) where
      -- by the book
      pub class_no_book : t ≡ false → Right k (record { log = k.log; values = k.values; units = k.units; delays = k.delays; told = k.told }) no_book
      unfolding class_refusal if◌then◌otherwise◌
      class_no_book h = left no_book (away no_book (later_number n no_book _ _ e z (rw (← b, h) refl)) (λ x. omega (arith, x)))

      -- ---- not turned away
      module _ (h : t ≡ true) (m : ℕ) (c : m ≡ count k.book) (size : ℕ) (s : size ≡ part_of m (length k.log)) where
        accepted : class_refusal (lent k) k.circuit k.book ≡ 0
        unfolding class_refusal if◌then◌otherwise◌
        accepted = sym (later_number n 0 _ _ e z (rw (← b, h) refl))

        size_is : size ≡ part_size k
        size_is = s ∙ ap (λ (x : ℕ). part_of x (length k.log)) c

        all_answers : answered (first_answers k size m) ≡ class_answer k
        unfolding first_answers entries class class_to
        all_answers =
            (λ j. answered (map (answer_of k (size_is j)) (from 0 (c j)))) ∙ ap answered (each_answer k (part_size k) (from 0 (count k.book)))
            ∙ ap (λ (x : ℕ). class_to x (lent k) (length k.log) k.circuit k.book) (sym accepted)

        pub class_answered : (l : Left) → SoFar k size m l → Right k l 0
        unfolding call_number
        class_answered l g =
            record {
              number = ap call_number all_answers;
              told = g.told ∙ ap (λ (x : Several). call_told x k.told) all_answers;
              log = g.log ∙ (λ j. call_log (all_answers j) (size_is j) k.log);
              values = g.values ∙ ap (λ (x : Several). class_area x k.values) all_answers;
              units = g.units ∙ ap (λ (x : Several). class_area x k.units) all_answers;
              delays = g.delays ∙ ap (λ (x : Several). class_area x k.delays) all_answers;
              numbers = class_numbers _ _ _ _;
              promised = λ i l. promised _ _ _ _;
            }

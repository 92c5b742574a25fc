-- A class: a script that leaves the book is refused as 8, and which numbers a call has.
use mathlib.Core.Path.{◌≡◌, refl, ◌∙◌, subst}
use mathlib.Core.Bool.{Bool, true, ◌||◌}
use mathlib.Core.List.{List, [], ◌∷◌, map}
use mathlib.Core.Option.{some}
use Prim.Native.Nat.{ℕ, zero, suc, ◌+◌, ◌*◌, ◌<◌}
use native.Mathlib.Omega.{arith}
use lib.Dec.{leb}
use lib.ListN.{length, length-map}
use borrow.Author.Tests.{lt-leb, ne_eqb}
use Rattle.words.specs.Words.{words}
use Rattle.model.specs.Base.{if◌then◌otherwise◌, all, among, from}
use Rattle.model.specs.Circuit.{Circuit, circuit}
use Rattle.model.specs.Questions.{Areas, within, circuit_refusal, script_refusal, or_else, refusal, questions_opened}
use Rattle.model.specs.Answer.{refused, answer_to, answer, number}
use Rattle.model.specs.Book.{count, good_book, start_of, length_of, entry, entries, part_of}
use Rattle.model.specs.Class.{most_scripts, no_book, class_refusal, class_to, class, ClassAnswers, is_turned_away, is_answered}
use Rattle.model.proofs.Lists.{if_both, if_by, both_true, from_length}
use Rattle.model.proofs.Sizes.{within_true}
use Rattle.model.proofs.Ends.{stop_as}

-- no bytes are no script
no_script : (c : Circuit) → script_refusal c [] ≡ 8
unfolding questions_opened words if◌then◌otherwise◌
no_script c = refl

-- a string that leaves its book has none
pub entry_leaves : (book : List ℕ) (k : ℕ) → length book < start_of book k + length_of book k → entry book k ≡ []
unfolding entry if◌then◌otherwise◌
entry_leaves book k h = rw (lt-leb (start_of book k + length_of book k) (length book) h)

-- so a script that does is refused as 8, where the circuit is not refused
pub leaves_refused :
    (areas : Areas) (room : ℕ) (cb book : List ℕ) (k : ℕ) → circuit_refusal (some areas) cb ≡ 0 → length book < start_of book k + length_of book k →
    answer areas room cb (entry book k) ≡ refused 8
unfolding answer answer_to refusal or_else
leaves_refused areas room cb book k h l = rw (entry_leaves book k l, h, no_script (circuit (words cb)))

-- ---- the numbers

-- of a script over a circuit that is not refused
script_numbered :
    (areas : Areas) (room : ℕ) (cb sb : List ℕ) → circuit_refusal (some areas) cb ≡ 0 →
    among (number (answer areas room cb sb)) (0 ∷ 8 ∷ 9 ∷ 10 ∷ 11 ∷ 12 ∷ 13 ∷ []) ≡ true
unfolding answer answer_to refusal or_else script_refusal number among
script_numbered areas room cb sb h =
    let c = circuit (words cb) in
    let Q : ℕ → Type 0 = λ n. among n (0 ∷ 8 ∷ 9 ∷ 10 ∷ 11 ∷ 12 ∷ 13 ∷ []) ≡ true in
    let P : ℕ → Type 0 = λ n. Q (number (answer_to n room cb sb)) in
    rw h (if_both P _ refl (if_both P _ refl (if_both P _ refl (stop_as Q refl refl refl refl room c (words sb)))))

-- the circuit's own; 15, the book's, is told beside them
circuit_numbered : (areas : Areas) (cb : List ℕ) → among (circuit_refusal (some areas) cb) (0 ∷ 1 ∷ 2 ∷ 3 ∷ 4 ∷ 5 ∷ 6 ∷ 7 ∷ 19 ∷ no_book ∷ []) ≡ true
unfolding circuit_refusal among
circuit_numbered areas cb =
    let P : ℕ → Type 0 = λ n. among n (0 ∷ 1 ∷ 2 ∷ 3 ∷ 4 ∷ 5 ∷ 6 ∷ 7 ∷ 19 ∷ no_book ∷ []) ≡ true in
    if_both P _ refl (if_both P _ refl (if_both P _ refl (if_both P _ refl (if_both P _ refl (if_both P _ refl (if_both P _ refl (if_both P _ refl refl)))))))

-- every call has one of these
pub class_numbers : (areas : Areas) (room : ℕ) (cb book : List ℕ) → ClassAnswers (class areas room cb book)
unfolding class class_to class_refusal or_else good_book entries all among
class_numbers areas room cb book = go (circuit_refusal (some areas) cb) refl (circuit_numbered areas cb)
  where
    P : ℕ → Type 0
    P n = ClassAnswers (class_to n areas room cb book)

    few : circuit_refusal (some areas) cb ≡ 0 → good_book most_scripts book ≡ true → P 0
    few h g =
        let n = within_true 1 most_scripts (count book) (both_true (within 1 most_scripts (count book)) (leb (8 * (1 + 2 * count book)) (length book)) g).0 in
        let f = answer areas (part_of (count book) room) cb in
        let l : length (map f (entries book)) ≡ count book = length-map (entries book) f ∙ length-map (from 0 (count book)) (entry book) ∙ from_length 0 (count book) in
        is_answered {rs = map f (entries book)} (omega (arith, n.0, l)) (omega (arith, n.1, l)) (all_mapped (entries book) h)
      where
        all_mapped : (sbs : List (List ℕ)) → circuit_refusal (some areas) cb ≡ 0 → all (λ a. among (number a) (0 ∷ 8 ∷ 9 ∷ 10 ∷ 11 ∷ 12 ∷ 13 ∷ [])) (map (answer areas (part_of (count book) room) cb) sbs) ≡ true
        all_mapped [] h = refl
        all_mapped (sb ∷ sbs) h = rw (script_numbered areas (part_of (count book) room) cb sb h) (all_mapped sbs h)

    go : (n : ℕ) → circuit_refusal (some areas) cb ≡ n → among n (0 ∷ 1 ∷ 2 ∷ 3 ∷ 4 ∷ 5 ∷ 6 ∷ 7 ∷ 19 ∷ no_book ∷ []) ≡ true → P (or_else n (if good_book most_scripts book then 0 otherwise no_book))
    go zero e h = if_by P (good_book most_scripts book) (few e) (λ g. is_turned_away refl)
    go (suc n) e h = is_turned_away (subst (λ (b : Bool). (b || among (suc n) (1 ∷ 2 ∷ 3 ∷ 4 ∷ 5 ∷ 6 ∷ 7 ∷ 19 ∷ no_book ∷ [])) ≡ true) (ne_eqb (suc n) 0 (λ z. omega (arith, z))) h)

-- What a class that is not refused comes to, in document 02's words: each answer, told word for word, and each part is what that script gives alone with that part as
-- its log, and what lies behind the parts stays.
use Prim.Native.Nat.{ℕ, zero, suc, ◌+◌, ◌*◌, ◌≤◌, ◌<◌}
use mathlib.Core.Path.{◌≡◌, refl, sym, ap, ◌∙◌}
use mathlib.Core.List.{List, [], ◌∷◌, ◌++◌, map}
use native.Mathlib.Omega.{arith}
use native.Mathlib.Nat.{zero-add, add-zero, zero-mul, suc-mul}
use lib.ListN.{length, take, drop, length-drop}
use lib.Seq.{length-take-le, take_at, drop_at}
use Rattle.model.specs.Base.{from, joined}
use Rattle.model.specs.Answer.{Answer, answer, log_after}
use Rattle.model.specs.Book.{count, entries, part_of, cut}
use Rattle.model.specs.Several.{Several, answered, call_number, parts_after, call_log, told_of, over, call_told}
use Rattle.model.specs.Class.{class_refusal, class_to, class}
use Rattle.books.proofs.Parts.{parts_in}
use Rattle.class.specs.Call.{Call, Left, lent, part_size, class_answer, Right}
use Rattle.class.specs.Scripts.{answer_of}
use Rattle.class.proofs.Logging.{one_on, past}
use Rattle.class.proofs.Going.{keeps}
use Rattle.class.proofs.Calls.{each_answer}

-- ---- of parts of so many bytes, where the answer to i is f i

module _ (f : ℕ → Answer) (size : ℕ) (keeps : (i : ℕ) (b : List ℕ) → length b ≡ size → length (log_after (f i) b) ≡ size) where
  -- part i is as its answer leaves it
  part_is : (n a i : ℕ) (log : List ℕ) → n * size ≤ length log → i < n → cut size (parts_after size (map f (from a n)) log) i ≡ log_after (f (a + i)) (cut size log i)
  unfolding parts_after from cut
  part_is zero a i log l h = absurd (omega (arith, h))
  part_is (suc n) a zero log l h =
      let p = log_after (f a) (take size log) in
      let e = keeps a (take size log) (length-take-le size log (omega (arith, l, suc-mul n size))) in
      (λ j. take size (drop (zero-mul size j) (p ++ parts_after size (map f (from (suc a) n)) (drop size log))))
      ∙ take_at p (parts_after size (map f (from (suc a) n)) (drop size log)) size e
      ∙ (λ j. log_after (f (sym (add-zero a) j)) (take size (drop (sym (zero-mul size) j) log)))
  part_is (suc n) a (suc i) log l h =
      let p = log_after (f a) (take size log) in
      let later = parts_after size (map f (from (suc a) n)) (drop size log) in
      let e = keeps a (take size log) (length-take-le size log (omega (arith, l, suc-mul n size))) in
      ap (take size) (past size i (p ++ later) ∙ ap (drop (i * size)) (drop_at p later size e))
      ∙ part_is n (suc a) i (drop size log) (omega (arith, l, length-drop size log, suc-mul n size)) (omega (arith, h))
      ∙ (λ j. log_after (f (one_on a i j)) (take size (sym (past size i log) j)))

  -- and nothing behind them moves
  behind_is : (n a : ℕ) (log : List ℕ) → n * size ≤ length log → drop (n * size) (parts_after size (map f (from a n)) log) ≡ drop (n * size) log
  unfolding parts_after from
  behind_is zero a log l = refl
  behind_is (suc n) a log l =
      let p = log_after (f a) (take size log) in
      let later = parts_after size (map f (from (suc a) n)) (drop size log) in
      let e = keeps a (take size log) (length-take-le size log (omega (arith, l, suc-mul n size))) in
      past size n (p ++ later) ∙ ap (drop (n * size)) (drop_at p later size e)
      ∙ behind_is n (suc a) (drop size log) (omega (arith, l, length-drop size log, suc-mul n size))
      ∙ sym (past size n log)

-- ---- of three words for each answer

told_is :
    (f : ℕ → Answer) (n a i : ℕ) (t : List ℕ) → i < n → 3 * i + 3 ≤ length t → take 3 (drop (3 * i) (over (joined (map told_of (map f (from a n)))) t)) ≡ told_of (f (a + i))
unfolding from joined told_of over
told_is f zero a i t h l = absurd (omega (arith, h))
told_is f (suc n) a i [] h l = absurd (omega (arith, l))
told_is f (suc n) a i (x ∷ []) h l = absurd (omega (arith, l))
told_is f (suc n) a i (x ∷ y ∷ []) h l = absurd (omega (arith, l))
told_is f (suc n) a zero (x ∷ y ∷ z ∷ t) h l = ap (λ (m : ℕ). told_of (f m)) (sym (add-zero a))
told_is f (suc n) a (suc i) (x ∷ y ∷ z ∷ t) h l =
    ap (λ (m : ℕ). take 3 (drop m (told_of (f a) ++ over (joined (map told_of (map f (from (suc a) n)))) t))) (three_more i)
    ∙ told_is f n (suc a) i t (omega (arith, h)) (omega (arith, l))
    ∙ ap (λ (m : ℕ). told_of (f m)) (one_on a i)
  where
    three_more : (i : ℕ) → 3 * suc i ≡ suc (suc (suc (3 * i)))
    three_more i = omega arith

-- ---- of a call that answered 0

module _ (k : Call) (l : Left) (right : Right k l 0) where
  -- each script has the answer that it has alone, with its part as its log
  pub answers_alone : class_answer k ≡ answered (map (answer_of k (part_size k)) (from 0 (count k.book)))
  unfolding class class_to call_number entries
  answers_alone = go (class_refusal (lent k) k.circuit k.book) right.number ∙ ap answered (sym (each_answer k (part_size k) (from 0 (count k.book))))
    where
      go :
          (n : ℕ) → 0 ≡ call_number (class_to n (lent k) (length k.log) k.circuit k.book) →
          class_to n (lent k) (length k.log) k.circuit k.book ≡ answered (map (answer (lent k) (part_size k) k.circuit) (entries k.book))
      go zero h = refl
      go (suc n) h = absurd (omega (arith, h))

  fits : count k.book * part_size k ≤ length k.log
  unfolding part_of
  fits = parts_in (count k.book) (length k.log)

  log_is : l.log ≡ parts_after (part_size k) (map (answer_of k (part_size k)) (from 0 (count k.book))) k.log
  unfolding call_log
  log_is = right.log ∙ ap (λ (a : Several). call_log a (part_size k) k.log) answers_alone

  -- and leaves its part as it would alone
  pub part_alone : (i : ℕ) → i < count k.book → cut (part_size k) l.log i ≡ log_after (answer_of k (part_size k) i) (cut (part_size k) k.log i)
  part_alone i h =
      ap (λ (b : List ℕ). cut (part_size k) b i) log_is ∙ part_is (answer_of k (part_size k)) (part_size k) (keeps k (part_size k)) (count k.book) 0 i k.log fits h
      ∙ ap (λ (m : ℕ). log_after (answer_of k (part_size k) m) (cut (part_size k) k.log i)) (zero-add i)

  -- what lies behind the parts stays
  pub behind_stays : drop (count k.book * part_size k) l.log ≡ drop (count k.book * part_size k) k.log
  behind_stays = ap (drop (count k.book * part_size k)) log_is ∙ behind_is (answer_of k (part_size k)) (part_size k) (keeps k (part_size k)) (count k.book) 0 k.log fits

  -- the words of script i, where there is room for them
  pub told_alone : (i : ℕ) → i < count k.book → 3 * i + 3 ≤ length k.told → take 3 (drop (3 * i) l.told) ≡ told_of (answer_of k (part_size k) i)
  unfolding call_told
  told_alone i h r =
      ap (λ (t : List ℕ). take 3 (drop (3 * i) t)) (right.told ∙ ap (λ (a : Several). call_told a k.told) answers_alone)
      ∙ told_is (answer_of k (part_size k)) (count k.book) 0 i k.told h r
      ∙ ap (λ (m : ℕ). told_of (answer_of k (part_size k) m)) (zero-add i)

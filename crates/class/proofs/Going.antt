-- The loop over the scripts: what the first n of them have left.
use Prim.Native.Nat.{ℕ, zero, suc, ◌+◌, ◌*◌, ◌≤◌, ◌<◌}
use mathlib.Core.Path.{◌≡◌, refl, sym, ap, ◌∙◌, subst}
use mathlib.Core.List.{List, [], ◌∷◌, ◌++◌, map, append-nil, append_assoc}
use mathlib.Core.Option.{some}
use native.Mathlib.Omega.{arith}
use native.Mathlib.Nat.{zero-add, add-zero, suc-mul}
use lib.ListN.{length, length-map}
use borrow.Rule.Slice.PartMut.{put_mid}
use Rattle.model.specs.Base.{from, joined}
use Rattle.model.specs.Questions.{Areas, circuit_refusal}
use Rattle.model.specs.Answer.{Answer, answer, log_after, area_after}
use Rattle.model.specs.Book.{entry, cut}
use Rattle.model.specs.Several.{answered, parts_after, call_log, told_of, over, call_told}
use Rattle.model.specs.Class.{class_area}
use Rattle.model.proofs.Lists.{from_length}
use Rattle.model.proofs.Fits.{log_keeps_length}
use Rattle.books.proofs.Parts.{part_in}
use Rattle.telling.specs.Numbers.{put_from}
use Rattle.telling.proofs.Telling.{over_none, over_next}
use Rattle.class.specs.Call.{Call, Left, lent}
use Rattle.class.specs.Scripts.{answer_of, first_answers, Turned, SoFar}
use Rattle.class.proofs.Logging.{one_on, parts_next, area_first, area_long, area_next}

-- a call made with what another one left so far
abbrev pub go_on : Call → Left → Call
go_on k l = record { circuit = k.circuit; book = k.book; log = l.log; values = l.values; units = l.units; delays = l.delays; told = l.told }

-- ---- the answers so far, and one more

module _ {A : Type 0} (f : ℕ → A) where
  mapped_next : (a n : ℕ) → map f (from a (suc n)) ≡ map f (from a n) ++ (f (a + n) ∷ [])
  unfolding from
  mapped_next a zero = ap (λ (m : ℕ). f m ∷ []) (sym (add-zero a))
  mapped_next a (suc n) = ap (λ (l : List A). f a ∷ l) (mapped_next (suc a) n) ∙ ap (λ (m : ℕ). f a ∷ (map f (from (suc a) n) ++ (f m ∷ []))) (one_on a n)

-- three words for each
words_many : (rs : List Answer) → length (joined (map told_of rs)) ≡ 3 * length rs
unfolding joined told_of
words_many [] = refl
words_many (r ∷ rs) = let e = words_many rs in omega (arith, e)

words_next : (rs : List Answer) (a : Answer) → joined (map told_of (rs ++ (a ∷ []))) ≡ joined (map told_of rs) ++ told_of a
unfolding joined
words_next [] a = append-nil (told_of a)
words_next (r ∷ rs) a = ap (λ (l : List ℕ). told_of r ++ l) (words_next rs a) ∙ sym (append_assoc (told_of r) (joined (map told_of rs)) (told_of a))

-- ---- the loop

module _ (k : Call) (size : ℕ) where
  -- no script was answered
  pub going_first : SoFar k size 0 (record { log = k.log; values = k.values; units = k.units; delays = k.delays; told = k.told })
  unfolding first_answers from call_log parts_after call_told joined
  going_first = record { told = sym (over_none k.told); log = refl; values = area_first k.values; units = area_first k.units; delays = area_first k.delays }

  -- no answer changes how long a part is
  pub keeps : (i : ℕ) (b : List ℕ) → length b ≡ size → length (log_after (answer_of k size i) b) ≡ size
  keeps i b e = subst (λ (n : ℕ). length (log_after (answer (lent k) n k.circuit (entry k.book i)) b) ≡ n) e (log_keeps_length (lent k) b k.circuit (entry k.book i))

  module _ (n : ℕ) where
    first_next : first_answers k size n ++ (answer_of k size n ∷ []) ≡ first_answers k size (suc n)
    unfolding first_answers
    first_next = sym (mapped_next (answer_of k size) 0 n ∙ ap (λ (m : ℕ). map (answer_of k size) (from 0 n) ++ (answer_of k size m ∷ [])) (zero-add n))

    words_so_far : 3 * n ≡ length (joined (map told_of (first_answers k size n)))
    unfolding first_answers
    words_so_far = sym (words_many (first_answers k size n) ∙ ap (λ (m : ℕ). 3 * m) (length-map (from 0 n) (answer_of k size) ∙ from_length 0 n))

    told_next : put_from (3 * n) (told_of (answer_of k size n)) (call_told (answered (first_answers k size n)) k.told) ≡ call_told (answered (first_answers k size (suc n))) k.told
    unfolding call_told
    told_next =
        let rs = first_answers k size n in
        let a = answer_of k size n in
        ap (λ (m : ℕ). put_from m (told_of a) (over (joined (map told_of rs)) k.told)) words_so_far
        ∙ over_next (told_of a) (joined (map told_of rs)) k.told
        ∙ ap (λ (l : List ℕ). over l k.told) (sym (words_next rs a))
        ∙ ap (λ (l : List Answer). over (joined (map told_of l)) k.told) first_next

    log_next :
        suc n * size ≤ length k.log →
        (let done = call_log (answered (first_answers k size n)) size k.log in put_mid (n * size) size done (log_after (answer_of k size n) (cut size done n)))
        ≡ call_log (answered (first_answers k size (suc n))) size k.log
    unfolding first_answers call_log
    log_next h =
        sym (parts_next (answer_of k size) size keeps n 0 k.log h
        ∙ ap (λ (m : ℕ). put_mid (n * size) size done (log_after (answer_of k size m) (cut size done n))) (zero-add n))
      where
        done : List ℕ
        done = parts_after size (map (answer_of k size) (from 0 n)) k.log

    area_so :
        (v₀ v v₁ : List ℕ) → v ≡ class_area (answered (first_answers k size n)) v₀ → v₁ ≡ area_after (answer_of k size n) v →
        v₁ ≡ class_area (answered (first_answers k size (suc n))) v₀
    area_so v₀ v v₁ e h = area_next (first_answers k size n) (answer_of k size n) v₀ v v₁ e h ∙ ap (λ (l : List Answer). class_area (answered l) v₀) first_next

  -- the areas are as long as they were, so they are lent as they were
  lent_same : (n : ℕ) (m : Left) → SoFar k size n m → lent (go_on k m) ≡ lent k
  lent_same n m g =
      let rs = first_answers k size n in
      λ j. record {
        values = (ap length g.values ∙ area_long rs k.values) j;
        units = (ap length g.units ∙ area_long rs k.units) j;
        delays = (ap length g.delays ∙ area_long rs k.delays) j;
      }

  -- so the circuit is not refused with them either
  pub still_good : (n : ℕ) (m : Left) → SoFar k size n m → circuit_refusal (some (lent k)) k.circuit ≡ 0 → circuit_refusal (some (lent (go_on k m))) k.circuit ≡ 0
  still_good n m g h = ap (λ (a : Areas). circuit_refusal (some a) k.circuit) (lent_same n m g) ∙ h

  -- one script more
  pub going_next :
      (all n : ℕ) (m l : Left) → all * size ≤ length k.log → n < all → SoFar k size n m → Turned (go_on k m) size n l → SoFar k size (n + 1) l
  going_next all n m l w h g t =
      let s : answer_of (go_on k m) size n ≡ answer_of k size n = ap (λ (a : Areas). answer a size k.circuit (entry k.book n)) (lent_same n m g) in
      let p : suc n * size ≤ length k.log = omega (arith, part_in all size n (length k.log) h w, suc-mul n size) in
      let one : suc n ≡ n + 1 = omega arith in
      subst (λ (x : ℕ). SoFar k size x l) one
      (record {
        told = t.told ∙ (λ j. put_from (3 * n) (told_of (s j)) (g.told j)) ∙ told_next n;
        log = t.log ∙ (λ j. put_mid (n * size) size (g.log j) (log_after (s j) (cut size (g.log j) n))) ∙ log_next n p;
        values = area_so n k.values m.values l.values g.values (t.values ∙ ap (λ (a : Answer). area_after a m.values) s);
        units = area_so n k.units m.units l.units g.units (t.units ∙ ap (λ (a : Answer). area_after a m.units) s);
        delays = area_so n k.delays m.delays l.delays g.delays (t.delays ∙ ap (λ (a : Answer). area_after a m.delays) s);
      })

  -- all of them
  pub going_last : (all n : ℕ) (l : Left) → SoFar k size n l → n ≤ all → all ≤ n → SoFar k size all l
  going_last all n l g h e = let q : n ≡ all = omega arith in subst (λ (x : ℕ). SoFar k size x l) q g

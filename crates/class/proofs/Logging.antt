-- The log in parts, one answer after the other; and the areas.
use Prim.Native.Nat.{ℕ, zero, suc, ◌+◌, ◌*◌, ◌≤◌}
use mathlib.Core.Path.{◌≡◌, refl, sym, ap, ◌∙◌}
use mathlib.Core.Bool.{Bool, true, false, ◌||◌}
use mathlib.Core.List.{List, [], ◌∷◌, ◌++◌, map, append_assoc}
use native.Mathlib.Omega.{arith}
use native.Mathlib.Nat.{add-zero, add-suc, suc-add, zero-mul, suc-mul}
use lib.ListN.{length, take, drop, replicate, length-drop, length-replicate}
use lib.Seq.{length-take-le, take_at, drop_at, drop-drop, take-add}
use borrow.Rule.Slice.PartMut.{put_mid}
use Rattle.model.specs.Base.{if◌then◌otherwise◌, from}
use Rattle.model.specs.Run.{Played}
use Rattle.model.specs.Answer.{Answer, refused, played, log_after, area_after}
use Rattle.model.specs.Book.{cut}
use Rattle.model.specs.Several.{answered, parts_after}
use Rattle.model.specs.Class.{was_played, any_played, class_area}

-- ---- a part that is lent and comes back

times_more : (n k : ℕ) → suc k * n ≡ n + k * n
times_more n k = omega (arith, suc-mul k n)

-- from one place on, one more
pub one_on : (a k : ℕ) → suc a + k ≡ a + suc k
one_on a k = suc-add a k ∙ sym (add-suc a k)

-- past one part more
pub past : (size k : ℕ) (bs : List ℕ) → drop (suc k * size) bs ≡ drop (k * size) (drop size bs)
past size k bs = ap (λ (n : ℕ). drop n bs) (times_more size k) ∙ sym (drop-drop (k * size) size bs)

-- part 0
put_first : (size : ℕ) (bs p : List ℕ) → put_mid (0 * size) size bs p ≡ p ++ drop size bs
put_first size bs p = ap (λ (n : ℕ). put_mid n size bs p) (zero-mul size)

-- part k + 1 is part k of what follows the first
put_later : (size k : ℕ) (bs p : List ℕ) → put_mid (suc k * size) size bs p ≡ take size bs ++ put_mid (k * size) size (drop size bs) p
put_later size k bs p =
    ap (λ (n : ℕ). put_mid n size bs p) (times_more size k)
    ∙ ap (λ (l : List ℕ). l ++ (p ++ drop size (drop (size + k * size) bs))) (take-add size (k * size) bs)
    ∙ ap (λ (l : List ℕ). take size bs ++ take (k * size) (drop size bs) ++ (p ++ drop size l)) (sym (drop-drop (k * size) size bs))
    ∙ append_assoc (take size bs) (take (k * size) (drop size bs)) (p ++ drop size (drop (k * size) (drop size bs)))

-- The next answer's part is lent and comes back, where no answer changes how long a part is.
pub parts_next :
    (f : ℕ → Answer) (size : ℕ) → ((i : ℕ) (b : List ℕ) → length b ≡ size → length (log_after (f i) b) ≡ size) → (k a : ℕ) (log : List ℕ) → suc k * size ≤ length log →
    parts_after size (map f (from a (suc k))) log
    ≡ put_mid (k * size) size (parts_after size (map f (from a k)) log) (log_after (f (a + k)) (cut size (parts_after size (map f (from a k)) log) k))
unfolding parts_after from cut
parts_next f size keeps zero a log h =
    sym (put_first size log (log_after (f (a + 0)) (take size (drop (0 * size) log))) ∙ (λ j. log_after (f (add-zero a j)) (take size (drop (zero-mul size j) log)) ++ drop size log))
parts_next f size keeps (suc k) a log h =
    ap (λ (l : List ℕ). p ++ l) (parts_next f size keeps k (suc a) (drop size log) (omega (arith, h, length-drop size log, suc-mul (suc k) size)))
    ∙ sym (put_later size k (p ++ later) q ∙ (λ j. take_at p later size e j ++ put_mid (k * size) size (drop_at p later size e j) q) ∙ ap (λ (x : List ℕ). p ++ put_mid (k * size) size later x) lent_is)
  where
    p : List ℕ
    p = log_after (f a) (take size log)

    later : List ℕ
    later = parts_after size (map f (from (suc a) k)) (drop size log)

    q : List ℕ
    q = log_after (f (a + suc k)) (take size (drop (suc k * size) (p ++ later)))

    e : length p ≡ size
    e = keeps a (take size log) (length-take-le size log (omega (arith, h, suc-mul (suc k) size)))

    behind : drop (suc k * size) (p ++ later) ≡ drop (k * size) later
    behind = past size k (p ++ later) ∙ ap (drop (k * size)) (drop_at p later size e)

    lent_is : q ≡ log_after (f (suc a + k)) (take size (drop (k * size) later))
    lent_is = λ j. log_after (f (sym (one_on a k) j)) (take size (behind j))

-- ---- an area

any_refused : (rs : List Answer) (n : ℕ) → any_played (rs ++ (refused n ∷ [])) ≡ any_played rs
unfolding any_played was_played
any_refused [] n = refl
any_refused (r ∷ rs) n = ap (λ (b : Bool). was_played r || b) (any_refused rs n)

any_now : (rs : List Answer) (p : Played) → any_played (rs ++ (played p ∷ [])) ≡ true
unfolding any_played was_played
any_now [] p = refl
any_now (r ∷ rs) p = ap (λ (b : Bool). was_played r || b) (any_now rs p) ∙ or_true (was_played r)
  where
    or_true : (b : Bool) → (b || true) ≡ true
    or_true true = refl
    or_true false = refl

-- before the first answer
pub area_first : (v : List ℕ) → v ≡ class_area (answered []) v
unfolding class_area any_played if◌then◌otherwise◌
area_first v = refl

-- it stays as long as it was
pub area_long : (rs : List Answer) (v : List ℕ) → length (class_area (answered rs) v) ≡ length v
unfolding class_area if◌then◌otherwise◌
area_long rs v = go (any_played rs)
  where
    go : (b : Bool) → length (if b then replicate (length v) 0 otherwise v) ≡ length v
    go true = length-replicate (length v) 0
    go false = refl

-- one answer more
pub area_next :
    (rs : List Answer) (a : Answer) (v₀ v v₁ : List ℕ) → v ≡ class_area (answered rs) v₀ → v₁ ≡ area_after a v → v₁ ≡ class_area (answered (rs ++ (a ∷ []))) v₀
unfolding class_area area_after if◌then◌otherwise◌
area_next rs (refused n) v₀ v v₁ e h = h ∙ e ∙ ap (λ (b : Bool). if b then replicate (length v₀) 0 otherwise v₀) (sym (any_refused rs n))
area_next rs (played p) v₀ v v₁ e h =
    h ∙ ap (λ (n : ℕ). replicate n 0) (ap length e ∙ area_long rs v₀) ∙ ap (λ (b : Bool). if b then replicate (length v₀) 0 otherwise v₀) (sym (any_now rs p))

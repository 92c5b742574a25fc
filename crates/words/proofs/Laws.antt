-- Laws of `words`, `tail` and `bytes`: how long they are, that they are inverse, and what becomes of a part.
use Prim.Native.Nat.{ℕ, zero, suc, ◌+◌, ◌-◌, ◌*◌, ◌/◌, ◌%◌, ◌^◌, ◌≤◌, ◌<◌}
use mathlib.Core.Path.{◌≡◌, refl, sym, ap, ◌∙◌}
use mathlib.Core.List.{List, [], ◌∷◌, ◌++◌}
use native.Mathlib.Nat.{mod-eq_of_lt}
use native.Mathlib.Omega.{arith}
use lib.ListN.{length, get_or, take, drop, length-drop, drop_of_length-le}
use lib.Seq.{length-take-le, take_all, take_at, drop_at}
use borrow.Rule.Slice.PartMut.{put_mid}
use Rattle.words.specs.Words.{word, words, tail, bytes_of, bytes}

-- What holds of fewer than eight bytes, and of eight bytes before a list of which it holds, holds of every list of bytes.
pub by_words : (P : List ℕ → Type 0) → ((s : List ℕ) → length s < 8 → words s ≡ [] → tail s ≡ s → P s)
    → ((a b c d e f g h : ℕ) (r : List ℕ) → P r → P (a ∷ b ∷ c ∷ d ∷ e ∷ f ∷ g ∷ h ∷ r)) → (s : List ℕ) → P s
unfolding words tail
by_words P few more [] = few [] (omega arith) refl refl
by_words P few more (a ∷ []) = few (a ∷ []) (omega arith) refl refl
by_words P few more (a ∷ b ∷ []) = few (a ∷ b ∷ []) (omega arith) refl refl
by_words P few more (a ∷ b ∷ c ∷ []) = few (a ∷ b ∷ c ∷ []) (omega arith) refl refl
by_words P few more (a ∷ b ∷ c ∷ d ∷ []) = few (a ∷ b ∷ c ∷ d ∷ []) (omega arith) refl refl
by_words P few more (a ∷ b ∷ c ∷ d ∷ e ∷ []) = few (a ∷ b ∷ c ∷ d ∷ e ∷ []) (omega arith) refl refl
by_words P few more (a ∷ b ∷ c ∷ d ∷ e ∷ f ∷ []) = few (a ∷ b ∷ c ∷ d ∷ e ∷ f ∷ []) (omega arith) refl refl
by_words P few more (a ∷ b ∷ c ∷ d ∷ e ∷ f ∷ g ∷ []) = few (a ∷ b ∷ c ∷ d ∷ e ∷ f ∷ g ∷ []) (omega arith) refl refl
by_words P few more (a ∷ b ∷ c ∷ d ∷ e ∷ f ∷ g ∷ h ∷ r) = more a b c d e f g h r (by_words P few more r)

-- What holds of eight bytes and any rest holds of every list of at least eight.
pub eight : (P : List ℕ → Type 0) → ((a b c d e f g h : ℕ) (r : List ℕ) → P (a ∷ b ∷ c ∷ d ∷ e ∷ f ∷ g ∷ h ∷ r)) → (s : List ℕ) → 8 ≤ length s → P s
eight P k = by_words (λ t. 8 ≤ length t → P t) (λ t m w u l. absurd (omega arith)) (λ a b c d e f g h r q l. k a b c d e f g h r)

-- ---- lengths

-- Eight bytes a word, and fewer than eight in the tail.
pub lengths : (s : List ℕ) → (length s ≡ 8 * length (words s) + length (tail s)) × (length (tail s) < 8)
unfolding words tail
lengths =
    by_words (λ t. (length t ≡ 8 * length (words t) + length (tail t)) × (length (tail t) < 8)) (λ t m w u. rw (w, u) (omega arith, m))
    (λ a b c d e f g h r q. (omega arith, q.1))

pub count_words : (s : List ℕ) → length (words s) ≡ length s / 8
count_words s = let q = lengths s in omega arith

pub length_words : (n : ℕ) (s : List ℕ) → length s ≡ n * 8 → length (words s) ≡ n
length_words n s l = let q = lengths s in omega arith

pub words_long : (n : ℕ) (s : List ℕ) → n * 8 ≤ length s → n ≤ length (words s)
words_long n s l = let q = lengths s in omega arith

pub length_bytes : (ws : List ℕ) → length (bytes ws) ≡ 8 * length ws
unfolding bytes
length_bytes [] = refl
length_bytes (v ∷ ws) = omega (arith, length_bytes ws)

-- ---- bytes and words are inverse

-- Each number of the list is below m; past its end `get_or` gives 0.
-- Of a slice that a proof knows of, `λ i. (c.slice_known.given i).fits` is a `Below 256`.
abbrev pub Below : ℕ → List ℕ → Type 0
Below m s = (i : ℕ) → get_or s i 0 < m

below_cons : (m x : ℕ) (s : List ℕ) → x < m → Below m s → Below m (x ∷ s)
below_cons m x s l b zero = l
below_cons m x s l b (suc i) = b i

-- The eight bytes of a word make that word.
pub word_of : (v : ℕ) → v < 2 ^ 64
    → word (v % 256) (v / 256 % 256) (v / 256 / 256 % 256) (v / 256 / 256 / 256 % 256) (v / 256 / 256 / 256 / 256 % 256) (v / 256 / 256 / 256 / 256 / 256 % 256) (v / 256 / 256 / 256 / 256 / 256 / 256 % 256) (v / 256 / 256 / 256 / 256 / 256 / 256 / 256 % 256) ≡ v
word_of v l = omega arith

pub words_bytes : (ws r : List ℕ) → Below (2 ^ 64) ws → words (bytes ws ++ r) ≡ ws ++ words r
unfolding words bytes
words_bytes [] r b = refl
words_bytes (v ∷ ws) r b = λ j. word_of v (b 0) j ∷ words_bytes ws r (λ i. b (suc i)) j

pub tail_bytes : (ws r : List ℕ) → tail (bytes ws ++ r) ≡ tail r
unfolding tail bytes
tail_bytes [] r = refl
tail_bytes (v ∷ ws) r = tail_bytes ws r

-- The bytes of a + 256 * x are a and those of x.
bytes_cons : (n a x : ℕ) (s : List ℕ) → a < 256 → bytes_of n x ≡ s → bytes_of (suc n) (a + 256 * x) ≡ a ∷ s
bytes_cons n a x s l q =
    let m : (a + 256 * x) % 256 ≡ a = omega arith in
    let k : (a + 256 * x) / 256 ≡ x = omega arith in
    λ j. m j ∷ (ap (bytes_of n) k ∙ q) j

module _ (a b c d e f g h : ℕ) (r : List ℕ) (k : Below 256 (a ∷ b ∷ c ∷ d ∷ e ∷ f ∷ g ∷ h ∷ r)) where
  word_below : word a b c d e f g h < 2 ^ 64
  word_below = omega (arith, k 0, k 1, k 2, k 3, k 4, k 5, k 6, k 7)

  -- Eight bytes are those of the word that they make.
  bytes_word : bytes_of 8 (word a b c d e f g h) ≡ a ∷ b ∷ c ∷ d ∷ e ∷ f ∷ g ∷ h ∷ []
  bytes_word =
      bytes_cons 7 a _ _ (k 0) (bytes_cons 6 b _ _ (k 1) (bytes_cons 5 c _ _ (k 2) (bytes_cons 4 d _ _ (k 3) (bytes_cons 3 e _ _ (k 4) (bytes_cons 2 f _ _ (k 5) (bytes_cons 1 g _ _ (k 6) (λ j. mod-eq_of_lt (k 7) j ∷ [])))))))

  below_rest : Below 256 r
  below_rest i = k (suc (suc (suc (suc (suc (suc (suc (suc i))))))))

pub words_below : (s : List ℕ) → Below 256 s → Below (2 ^ 64) (words s)
unfolding words
words_below =
    by_words (λ t. Below 256 t → Below (2 ^ 64) (words t)) (λ t m w u k i. rw w (omega arith))
    (λ a b c d e f g h r q k. below_cons (2 ^ 64) (word a b c d e f g h) (words r) (word_below a b c d e f g h r k) (q (below_rest a b c d e f g h r k)))

pub bytes_words : (s : List ℕ) → Below 256 s → bytes (words s) ++ tail s ≡ s
unfolding words tail bytes
bytes_words =
    by_words (λ t. Below 256 t → bytes (words t) ++ tail t ≡ t) (λ t m w u k. rw (w, u))
    (λ a b c d e f g h r q k. λ j. bytes_word a b c d e f g h r k j ++ q (below_rest a b c d e f g h r k) j)

-- The words and the tail of a list determine its bytes.
pub determined : (s t : List ℕ) → Below 256 s → Below 256 t → words s ≡ words t → tail s ≡ tail t → s ≡ t
determined s t bs bt w u = sym (bytes_words s bs) ∙ rw (w, u) (bytes_words t bt)

-- ---- parts that start and end at words

pub next : (i : ℕ) → suc i * 8 ≡ suc (suc (suc (suc (suc (suc (suc (suc (i * 8))))))))
next i = omega arith

pub take_words : (n : ℕ) (s : List ℕ) → words (take (n * 8) s) ≡ take n (words s)
unfolding words
take_words zero s = refl
take_words (suc n) s =
    by_words (λ t. words (take (suc n * 8) t) ≡ take (suc n) (words t)) (λ t m w u. rw (take_all (suc n * 8) t (omega arith), w))
    (λ a b c d e f g h r q. rw (next n) (ap (λ (t : List ℕ). word a b c d e f g h ∷ t) (take_words n r))) s

pub drop_words : (n : ℕ) (s : List ℕ) → words (drop (n * 8) s) ≡ drop n (words s)
unfolding words
drop_words zero s = refl
drop_words (suc n) s =
    by_words (λ t. words (drop (suc n * 8) t) ≡ drop (suc n) (words t))
    (λ t m w u. let l : length t ≤ suc n * 8 = omega arith in rw (drop_of_length-le t l, w)) (λ a b c d e f g h r q. rw (next n) (drop_words n r)) s

pub drop_tail : (n : ℕ) (s : List ℕ) → n * 8 ≤ length s → tail (drop (n * 8) s) ≡ tail s
unfolding tail
drop_tail zero s l = refl
drop_tail (suc n) s l =
    eight (λ t. suc n * 8 ≤ length t → tail (drop (suc n * 8) t) ≡ tail t) (λ a b c d e f g h r m. rw (next n) (drop_tail n r (omega arith))) s (omega arith) l

pub append_words : (n : ℕ) (p q : List ℕ) → length p ≡ n * 8 → words (p ++ q) ≡ words p ++ words q
unfolding words
append_words zero [] q l = refl
append_words zero (x ∷ p) q l = absurd (omega arith)
append_words (suc n) p q l =
    eight (λ t. length t ≡ suc n * 8 → words (t ++ q) ≡ words t ++ words q)
    (λ a b c d e f g h r m. ap (λ (t : List ℕ). word a b c d e f g h ∷ t) (append_words n r q (omega arith))) p (omega arith) l

pub append_tail : (n : ℕ) (p q : List ℕ) → length p ≡ n * 8 → tail (p ++ q) ≡ tail q
unfolding tail
append_tail zero [] q l = refl
append_tail zero (x ∷ p) q l = absurd (omega arith)
append_tail (suc n) p q l =
    eight (λ t. length t ≡ suc n * 8 → tail (t ++ q) ≡ tail q) (λ a b c d e f g h r m. append_tail n r q (omega arith)) p (omega arith) l

-- The n words from word b on.
pub words_mid : (b n : ℕ) (s : List ℕ) → words (take (n * 8) (drop (b * 8) s)) ≡ take n (drop b (words s))
words_mid b n s = rw (take_words n (drop (b * 8) s), drop_words b s)

-- They are lent as a part, which comes back as p.
module _ (b n : ℕ) (s p : List ℕ) (l : (b + n) * 8 ≤ length s) (e : length p ≡ n * 8) where
  pub words_put : words (put_mid (b * 8) (n * 8) s p) ≡ put_mid b n (words s) (words p)
  words_put =
      rw (
        append_words b (take (b * 8) s) (p ++ drop (n * 8) (drop (b * 8) s)) (length-take-le (b * 8) s (omega arith)),
        append_words n p (drop (n * 8) (drop (b * 8) s)) e,
        take_words b s,
        drop_words n (drop (b * 8) s),
        drop_words b s,
      )

  pub tail_put : tail (put_mid (b * 8) (n * 8) s p) ≡ tail s
  tail_put =
      let h : length (drop (b * 8) s) ≡ length s - b * 8 = length-drop (b * 8) s in
      rw (
        append_tail b (take (b * 8) s) (p ++ drop (n * 8) (drop (b * 8) s)) (length-take-le (b * 8) s (omega arith)),
        append_tail n p (drop (n * 8) (drop (b * 8) s)) e,
        drop_tail n (drop (b * 8) s) (omega arith),
        drop_tail b s (omega arith),
      )

-- The part is then p.
pub mid_put : (b n : ℕ) (w p : List ℕ) → b ≤ length w → length p ≡ n → take n (drop b (put_mid b n w p)) ≡ p
mid_put b n w p l e = rw (drop_at (take b w) (p ++ drop n (drop b w)) b (length-take-le b w l)) (take_at p (drop n (drop b w)) n e)

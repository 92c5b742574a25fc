-- What the proofs of the functions cite: a load and a store of eight bytes, and the sign.
use Prim.Native.Nat.{ℕ, zero, suc, ◌+◌, ◌*◌, ◌/◌, ◌%◌, ◌^◌, ◌≤◌, ◌<◌}
use mathlib.Core.Path.{◌≡◌, refl, sym, ap, ◌∙◌}
use mathlib.Core.List.{List, [], ◌∷◌}
use native.Mathlib.Nat.{suc-add}
use native.Mathlib.Omega.{arith}
use lib.ListN.{length, get_or, set, get_or-eq_default}
use lib.Seq.{set_out}
use Rattle.std.specs.Int.{w64, from_le_bytes}
use Rattle.words.specs.Words.{word, words, tail, Stored}
use Rattle.words.proofs.Laws.{eight, next, word_of, lengths}

-- ---- a load

-- The eight bytes from o on, as a word.
abbrev at8 : List ℕ → ℕ → ℕ
at8 s o = word (get_or s o 0) (get_or s (o + 1) 0) (get_or s (o + 2) 0) (get_or s (o + 3) 0) (get_or s (o + 4) 0) (get_or s (o + 5) 0) (get_or s (o + 6) 0) (get_or s (o + 7) 0)

get_word : (i : ℕ) (s : List ℕ) → i * 8 + 8 ≤ length s → at8 s (i * 8) ≡ get_or (words s) i 0
unfolding words
get_word zero s l = eight (λ t. at8 t 0 ≡ get_or (words t) 0 0) (λ a b c d e f g h r. refl) s l
get_word (suc i) s l =
    eight (λ t. suc i * 8 + 8 ≤ length t → at8 t (suc i * 8) ≡ get_or (words t) (suc i) 0)
    (λ a b c d e f g h r m. rw (next i) (simp suc-add (get_word i r (omega arith)))) s (omega arith) l

-- They are what `from_le_bytes` reads.
pub read_word : (i : ℕ) (s : List ℕ) (x : ℕ) → i * 8 + 8 ≤ length s
    → x ≡ from_le_bytes w64 (get_or s (i * 8) 0 ∷ get_or s (i * 8 + 1) 0 ∷ get_or s (i * 8 + 2) 0 ∷ get_or s (i * 8 + 3) 0 ∷ get_or s (i * 8 + 4) 0 ∷ get_or s (i * 8 + 5) 0 ∷ get_or s (i * 8 + 6) 0 ∷ get_or s (i * 8 + 7) 0 ∷ [])
    → x ≡ get_or (words s) i 0
read_word i s x l e = let w : x ≡ at8 s (i * 8) = omega (arith, e) in w ∙ get_word i s l

-- ---- a store

-- The eight bytes of v stored from o on.
abbrev put8 : List ℕ → ℕ → ℕ → List ℕ
put8 s o v =
    let v1 = v / 256 in
    let v2 = v1 / 256 in
    let v3 = v2 / 256 in
    let v4 = v3 / 256 in
    let v5 = v4 / 256 in
    let v6 = v5 / 256 in
    let v7 = v6 / 256 in
    set (set (set (set (set (set (set (set s o (v % 256)) (o + 1) (v1 % 256)) (o + 2) (v2 % 256)) (o + 3) (v3 % 256)) (o + 4) (v4 % 256)) (o + 5) (v5 % 256)) (o + 6) (v6 % 256)) (o + 7) (v7 % 256)

pub put_word : (i : ℕ) (s : List ℕ) (v : ℕ) → v < 2 ^ 64 → i * 8 + 8 ≤ length s → Stored s (put8 s (i * 8) v) i v
unfolding words tail
put_word zero s v u l =
    eight (λ t. Stored t (put8 t 0 v) 0 v) (λ a b c d e f g h r. record { words = ap (λ (x : ℕ). x ∷ words r) (word_of v u); tail = refl }) s l
put_word (suc i) s v u l =
    eight (λ t. suc i * 8 + 8 ≤ length t → Stored t (put8 t (suc i * 8) v) (suc i) v)
    (λ a b c d e f g h r m. let q = put_word i r v u (omega arith) in rw (next i) (simp suc-add (record { words = ap (λ (t : List ℕ). word a b c d e f g h ∷ t) q.words; tail = q.tail }))) s (omega arith) l

-- ---- past the end

pub get_past : (i : ℕ) (s : List ℕ) → length s / 8 ≤ i → 0 ≡ get_or (words s) i 0
get_past i s l = sym (get_or-eq_default (words s) 0 (omega (arith, lengths s)))

pub put_past : (i : ℕ) (s : List ℕ) (v : ℕ) → length s / 8 ≤ i → Stored s s i v
put_past i s v l = record { words = sym (set_out (words s) i v (omega (arith, lengths s))); tail = refl }

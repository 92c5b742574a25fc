-- What a load of a word reads of the tables, what a store changes in them, and what a table that was lent as a part comes back as.
use Prim.Native.Nat.{ℕ, zero, suc, ◌+◌, ◌*◌, ◌≤◌, ◌<◌}
use mathlib.Core.Path.{◌≡◌, refl, ap, ◌∙◌}
use mathlib.Core.List.{List, [], ◌∷◌}
use native.Mathlib.Nat.{not-suc-le-zero, le_of_suc-le-suc}
use native.Mathlib.Omega.{arith}
use borrow.Rule.Slice.PartMut.{put_mid}
use lib.ListN.{length, get_or, set, take, drop, length-drop}
use lib.Seq.{drop-drop, length-take-le}
use Rattle.words.specs.Words.{words, tail}
use Rattle.words.specs.Tables.{tables, base}
use Rattle.words.proofs.Laws.{words_long, length_words, words_mid, words_put, tail_put}
use Rattle.words.proofs.Tables.{tables_set, tables_get, tables_length, tables_put}
use Rattle.units.specs.View.{Tables, sizes, of, cut}

-- the tables as a list
abbrev pub to : Tables → List (List ℕ)
to t =
    t.stack ∷ t.forks ∷ t.pending ∷ t.late ∷ t.carried ∷ t.delivered ∷ t.begun ∷ t.half ∷ t.counts ∷ t.senders ∷ t.rows ∷ t.rest ∷ []

-- table n becomes p
abbrev pub with_table : ℕ → List ℕ → Tables → Tables
with_table n p t = of (set (to t) n p)

-- place i of table n becomes v
abbrev pub poke : ℕ → ℕ → ℕ → Tables → Tables
poke n i v t = with_table n (set (get_or (to t) n []) i v) t

pub cut_poke : (ws : List ℕ) (n i v : ℕ) → i < get_or sizes n 0 → cut (set ws (base sizes n + i) v) ≡ poke n i v (cut ws)
unfolding cut
cut_poke ws n i v h = ap of (tables_set sizes ws n i v h)

pub cut_peek : (ws : List ℕ) (n i : ℕ) → i < get_or sizes n 0 → get_or ws (base sizes n + i) 0 ≡ get_or (get_or (to (cut ws)) n []) i 0
unfolding cut
cut_peek ws n i h = tables_get sizes ws n i h

-- how long table n is
pub sized : (bs : List ℕ) (n : ℕ) → 65536 ≤ length bs → n < 11 → base sizes n + get_or sizes n 0 ≤ 8192 → length (get_or (to (cut (words bs))) n []) ≡ get_or sizes n 0
unfolding cut
sized bs n l k h = tables_length sizes (words bs) n k (omega (arith, words_long 8192 bs (omega arith)))

-- ---- a table lent as a part

-- table t of a list of words, as a part of it
tables_part : (ns ws : List ℕ) (t : ℕ) → t < length ns → take (get_or ns t 0) (drop (base ns t) ws) ≡ get_or (tables ns ws) t []
tables_part [] ws t h = absurd (not-suc-le-zero h)
tables_part (n ∷ ns) ws zero h = refl
tables_part (n ∷ ns) ws (suc t) h = rw (← drop-drop (base ns t) n ws) (tables_part ns (drop n ws) t (le_of_suc-le-suc h))

-- What is lent is table n.
pub lent : (bs : List ℕ) (n : ℕ) → n < 11 → words (take (get_or sizes n 0 * 8) (drop (base sizes n * 8) bs)) ≡ get_or (to (cut (words bs))) n []
unfolding cut
lent bs n h = words_mid (base sizes n) (get_or sizes n 0) bs ∙ tables_part sizes (words bs) n h

-- It comes back as p: table n is the words of p,
module _ (bs p : List ℕ) (n : ℕ) (k : n < 11) (l : 65536 ≤ length bs) (h : base sizes n + get_or sizes n 0 ≤ 8192) (e : length p ≡ get_or sizes n 0 * 8) where
  pub lent_back : cut (words (put_mid (base sizes n * 8) (get_or sizes n 0 * 8) bs p)) ≡ with_table n (words p) (cut (words bs))
  unfolding cut
  lent_back =
      rw (words_put (base sizes n) (get_or sizes n 0) bs p (omega arith) e)
      (ap of (tables_put sizes (words bs) (words p) n k (omega (arith, words_long 8192 bs (omega arith))) (length_words (get_or sizes n 0) p e)))

  -- and the bytes behind the words stay.
  pub lent_tail : tail (put_mid (base sizes n * 8) (get_or sizes n 0 * 8) bs p) ≡ tail bs
  lent_tail = tail_put (base sizes n) (get_or sizes n 0) bs p (omega arith) e

-- A part that comes back is as long as it was.
pub kept_length : (a n : ℕ) (bs p : List ℕ) → length p ≡ length (take n (drop a bs)) → a + n ≤ length bs → length p ≡ n
kept_length a n bs p e l = let k = length-drop a bs in e ∙ length-take-le n (drop a bs) (omega arith)

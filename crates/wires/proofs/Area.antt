-- What a load of a word reads of the tables, and what a store changes in them.
use Rattle.std.proofs.Common.{◌≡◌, ℕ, ◌+◌, ◌<◌, ◌≤◌, List, [], ◌∷◌, length, get_or, set, ap, arith}
use Rattle.words.specs.Words.{words}
use Rattle.words.specs.Tables.{base}
use Rattle.words.proofs.Laws.{words_long}
use Rattle.words.proofs.Tables.{tables_set, tables_get, tables_length}
use Rattle.wires.specs.View.{Tables, sizes, of, cut}

-- the tables as a list
abbrev pub to : Tables → List (List ℕ)
to t =
    t.tick ∷ t.dt ∷ t.uptime ∷ t.dirty ∷ t.unions_passed ∷ t.head ∷ t.count ∷ t.written_count ∷ t.out_tags ∷ t.out_contents ∷ t.queued
    ∷ t.slots ∷ t.last_kinds ∷ t.last_contents ∷ t.ticks ∷ t.up ∷ t.written ∷ t.stack ∷ t.late_checks ∷ t.written_outside ∷ t.breaking ∷ t.runs_left ∷ t.marking_late ∷ t.rest ∷ []

-- place i of table n becomes v
abbrev pub poke : ℕ → ℕ → ℕ → Tables → Tables
poke n i v t = of (set (to t) n (set (get_or (to t) n []) i v))

pub cut_poke : (ws : List ℕ) (n i v : ℕ) → i < get_or sizes n 0 → cut (set ws (base sizes n + i) v) ≡ poke n i v (cut ws)
unfolding cut
cut_poke ws n i v h = ap of (tables_set sizes ws n i v h)

pub cut_peek : (ws : List ℕ) (n i : ℕ) → i < get_or sizes n 0 → get_or ws (base sizes n + i) 0 ≡ get_or (get_or (to (cut ws)) n []) i 0
unfolding cut
cut_peek ws n i h = tables_get sizes ws n i h

-- how long table n is
pub sized : (bs : List ℕ) (n : ℕ) → 65536 ≤ length bs → n < 23 → base sizes n + get_or sizes n 0 ≤ 8192 → length (get_or (to (cut (words bs))) n []) ≡ get_or sizes n 0
unfolding cut
sized bs n l k h = tables_length sizes (words bs) n k (omega (arith, words_long 8192 bs (omega arith)))

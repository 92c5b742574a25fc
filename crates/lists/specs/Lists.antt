-- Bounded lists of words, as a part of an area holds them. Word 0 says how many entries there are; in a ring word 1 says in which slot the first one stands.
-- The entries follow, one word each.
use Rattle.std.specs.Prelude.{Option, Some, None, Result, Ok, Err, ℕ, zero, suc, ◌+◌, ◌-◌, min, ◌≡◌, cond, List, [], ◌∷◌, reverse, ltb, length, get_or}
use Rattle.lists.specs.declared.Full.{Full}

-- ---- the views: a list of at most `most` entries, whatever the words hold. A count above `most` is read as `most`. Slots that hold no entry stay open.

-- how many entries there are
abbrev pub held : ℕ → List ℕ → ℕ
held most ws = min (get_or ws 0 0) most

-- words n down to 1
unfoldable pub downward : ℕ → List ℕ → List ℕ
downward zero ws = []
downward (suc n) ws = get_or ws (suc n) 0 ∷ downward n ws

-- a stack, the newest first: it stands last
unfoldable pub stacked : ℕ → List ℕ → List ℕ
stacked most ws = downward (held most ws) ws

-- a list that is only appended to, the oldest first: a stack from its bottom on
abbrev pub appended : ℕ → List ℕ → List ℕ
appended most ws = reverse (stacked most ws)

-- a list by rank, the next one first: it stands last, too
abbrev pub ranked : ℕ → List ℕ → List ℕ
ranked most ws = stacked most ws

-- slot i of a ring of `most` slots, where past the last slot the first one follows; for an i below twice `most`
abbrev pub wrapped : ℕ → ℕ → ℕ
wrapped most i = cond (ltb i most) i (i - most)

-- n entries of a ring, from slot i on; slot 0 is word 2
unfoldable pub ring : ℕ → List ℕ → ℕ → ℕ → List ℕ
ring most ws i zero = []
ring most ws i (suc n) = get_or ws (2 + i) 0 ∷ ring most ws (wrapped most (i + 1)) n

-- the slot of the first entry; a number beyond the ring is read as 0
abbrev pub first_slot : ℕ → List ℕ → ℕ
first_slot most ws = cond (ltb (get_or ws 1 0) most) (get_or ws 1 0) 0

-- a ring, the oldest first
unfoldable pub queued : ℕ → List ℕ → List ℕ
queued most ws = ring most ws (first_slot most ws) (held most ws)

-- ---- one more entry

-- what the code answers to it
abbrev pub Filed : Type 0
Filed = Result (Unit {0}) Full

-- it was added
abbrev pub Done : Filed
Done = Ok tt

-- the list is full
abbrev pub NoRoom : Filed
NoRoom = Err (record {})

-- whether the list l had room for it
unfoldable pub filed : ℕ → List ℕ → Filed
filed most l = cond (ltb (length l) most) Done NoRoom

-- m, the list l with the entry in it, if l had room for it; else l
unfoldable pub if_room : ℕ → List ℕ → List ℕ → List ℕ
if_room most l m = cond (ltb (length l) most) m l

-- ---- one entry less: the first one is taken off, and `drop 1` is left

-- what was taken off
unfoldable pub taken : List ℕ → Option ℕ
taken [] = None
taken (x ∷ l) = Some x

-- ---- no entry

-- the list is empty, of whatever kind and limit it is
abbrev pub Emptied : List ℕ → Type 0
Emptied ws = (most : ℕ) → (stacked most ws ≡ []) × (queued most ws ≡ [])

-- What every list answers to one more entry, and what was taken off: for the functions' proofs, and for their callers.
use Prim.Native.Nat.{ℕ, ◌≤◌, ◌<◌}
use mathlib.Core.Path.{◌≡◌, refl}
use mathlib.Core.Bool.{Bool, true, false, cond}
use mathlib.Core.List.{List, [], ◌∷◌}
use native.Mathlib.Omega.{arith}
use borrow.Author.Tests.{lt-ltb, le-ltb, ltb-true, ltb-false}
use lib.Dec.{ltb}
use lib.ListN.{length, drop}
use Rattle.std.specs.Prelude.{Some, None, Result, Ok, Err, IsErr}
use Rattle.lists.specs.declared.Full.{Full}
use Rattle.lists.specs.Lists.{Done, NoRoom, filed, if_room, taken}

-- the list is full
pub no_room : (most n : ℕ) (l m : List ℕ) → n ≡ length l → most ≤ n → (NoRoom ≡ filed most l) × (l ≡ if_room most l m)
unfolding filed if_room
no_room most n l m e h =
    let k : ltb (length l) most ≡ false = le-ltb (length l) most (omega arith) in
    (rw k, rw k)

-- there is room, and the list becomes m
pub with_room : (most n : ℕ) (l m r : List ℕ) → n ≡ length l → n < most → r ≡ m → (Done ≡ filed most l) × (r ≡ if_room most l m)
unfolding filed if_room
with_room most n l m r e h q =
    let k : ltb (length l) most ≡ true = lt-ltb (length l) most (omega arith) in
    (rw k, rw k q)

-- there is nothing to take
pub none_left : (n : ℕ) (l : List ℕ) → n ≡ length l → n ≡ 0 → (None ≡ taken l) × (l ≡ drop 1 l)
unfolding taken
none_left n [] e z = (refl, refl)
none_left n (x ∷ l) e z = absurd (omega arith)

-- ---- for callers: what an answer says

-- The entry was added: the list had room, and is now m.
pub was_done : (most : ℕ) (l m : List ℕ) → Done ≡ filed most l → (length l < most) × (if_room most l m ≡ m)
unfolding filed if_room
was_done most l m e = go (ltb (length l) most) refl e
  where
    go : (b : Bool) → ltb (length l) most ≡ b → Done ≡ cond b Done NoRoom → (length l < most) × (cond b m l ≡ m)
    go true t e = (ltb-true (length l) most t, refl)
    go false t e = let z : ◌≡◌ {A = ℕ} 0 1 = cc in absurd (omega arith)

-- What `?` hands on of an error.
pub refused : {T : Type 0} (r : Result T Full) → IsErr r → r ≡ Err (record {})
refused (Ok x) h = cc
refused (Err e) h = refl

-- It was not: the list is full, and stays.
pub was_full : (most : ℕ) (l m : List ℕ) → NoRoom ≡ filed most l → (most ≤ length l) × (if_room most l m ≡ l)
unfolding filed if_room
was_full most l m e = go (ltb (length l) most) refl e
  where
    go : (b : Bool) → ltb (length l) most ≡ b → NoRoom ≡ cond b Done NoRoom → (most ≤ length l) × (cond b m l ≡ l)
    go true t e = let z : ◌≡◌ {A = ℕ} 0 1 = cc in absurd (omega arith)
    go false t e = (ltb-false (length l) most t, refl)

-- The entry taken off was the first.
pub was_entry : (x : ℕ) (l : List ℕ) → Some x ≡ taken l → l ≡ x ∷ drop 1 l
unfolding taken
was_entry x [] e = cc
was_entry x (y ∷ l) e = let q : x ≡ y = cc in rw q

-- Nothing was taken off: there was nothing.
pub was_empty : (l : List ℕ) → None ≡ taken l → l ≡ []
unfolding taken
was_empty [] e = refl
was_empty (x ∷ l) e = cc

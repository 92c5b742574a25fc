-- Bytes compared, one after another, and what a call leaves.
use Rattle.std.proofs.Common.{◌≡◌, ℕ, zero, suc, ◌+◌, ◌-◌, ◌<◌, ◌≤◌, Bool, true, false, not, ◌&&◌, eqb, List, [], ◌∷◌, length, get_or, take, drop, sym, ap, ◌∙◌, arith, length-drop, drop_of_length-le, drop-cons, eq-eqb, ne_eqb}
use lib.Seq.{take-length}
use Rattle.packed.specs.Same.{same}
use Rattle.packed.proofs.Comparing.{and_left, and_right, same_other}
use Rattle.replay.specs.Bytes.{alike, holds, answered}

-- ---- a log that holds records

take_short : (n : ℕ) (l : List ℕ) → length (take n l) ≤ length l
take_short zero l = omega arith
take_short (suc n) [] = omega arith
take_short (suc n) (x ∷ l) = omega (arith, take_short n l)

-- a log that is shorter than the records
pub holds_short : (b : ℕ) (log records : List ℕ) → length log < length records → false ≡ holds b log records
unfolding holds
holds_short b log records h =
    ap (λ (t : Bool). t && alike b (drop (length records) log)) (same_other (take (length records) log) records (λ e. omega (arith, take_short (length records) log)))

-- ---- one test after another, as `&&` answers

pub and_go : (t r a b : Bool) → t ≡ a → t ≡ true → r ≡ b → r ≡ (a && b)
and_go t r a b e h q = q ∙ ap (λ (x : Bool). x && b) (sym h ∙ e)

pub and_end : (t a b : Bool) → t ≡ a → t ≡ false → t ≡ (a && b)
and_end t a b e h = h ∙ ap (λ (x : Bool). x && b) (sym h ∙ e)

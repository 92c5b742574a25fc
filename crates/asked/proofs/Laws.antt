-- Laws of cases and counts.
use Rattle.std.proofs.Common.{◌≡◌, ℕ, ◌≤◌, false, eqb, List, ◌++◌, length, get_or, set, sym, refl, ap, arith, length-append, length-take-le, eq-eqb, ne_eqb}
use lib.Seq.{set_out}
use Rattle.asked.specs.declared.case.Case.{Case}
use Rattle.asked.specs.declared.case.Answers.{Answers}
use Rattle.asked.specs.Case.{right}
use Rattle.packed.specs.Tally.{one_more}
use Rattle.asked.specs.Tally.{counted}

-- the first answer is wrong
pub first_wrong : (c : Case) (a : Answers) → (a.check ≡ c.check → ⊥) → false ≡ right c a
unfolding right
first_wrong c a h = rw (ne_eqb a.check c.check h) refl

-- the first is right, so that the second decides
pub first_right : (c : Case) (a : Answers) → a.check ≡ c.check → eqb a.refusal c.refusal ≡ right c a
unfolding right
first_right c a h = rw (eq-eqb a.check c.check h) refl

-- a number that is not counted
pub not_counted : (ns : List ℕ) (n : ℕ) → length ns ≤ n → ns ≡ counted ns n
unfolding counted
not_counted ns n h = sym (set_out ns n (one_more (get_or ns n 0)) h)

-- a number that is
pub is_counted : (ns : List ℕ) (n x : ℕ) → x ≡ one_more (get_or ns n 0) → set ns n x ≡ counted ns n
unfolding counted
is_counted ns n x e = ap (set ns n) e

-- The milliseconds of all lines add up, and minutes are the nearest.
use mathlib.Core.Path.{◌≡◌, refl, sym, ap, ◌∙◌}
use mathlib.Core.Bool.{Bool, true, false}
use mathlib.Core.List.{List, [], ◌∷◌, map}
use Prim.Native.Nat.{ℕ, ◌+◌, ◌*◌, ◌≤◌, ◌<◌}
use native.Mathlib.Nat.{add-mul}
use native.Mathlib.Omega.{arith}
use lib.Dec.{leb}
use lib.ListN.{length, length-map}
use borrow.Author.Tests.{leb-true}
use Rattle.model.specs.declared.Value.{Value}
use Rattle.model.specs.declared.Value.TheVariants.{Nothing, Int, Float, Bool as Truth}
use Rattle.model.specs.Base.{if◌then◌otherwise◌, keep, sum}
use Rattle.model.specs.Record.{LogRecord}
use Rattle.records.specs.Records.{ticks_read, shown_in}
use Rattle.hours.specs.Hours.{Share, unassigned, assigned, last_activity, active, share, shares, drivers_after, drivers, is_share, is_nobodys, minute, half_minute, minutes, line_of, last_line, lines_of, report}
use Rattle.hours.specs.Call.{total, AddsUp}
use Rattle.hours.proofs.Counts.{Each, GoodShare, four_lines, ticks_of, ticks_of_all, all_ticks, often, each_once}

lines_total : (len : ℕ) (ss : List Share) (ds : List ℕ) → Each GoodShare ss → total (lines_of len ss ds) ≡ (ticks_of_all ds ss + length (keep is_nobodys ss)) * len
unfolding total sum lines_of line_of last_line ticks_of_all
lines_total len ss [] h =
    let e : 0 + length (keep is_nobodys ss) ≡ length (keep is_nobodys ss) = omega arith in
    rw e (omega arith)
lines_total len ss (d ∷ ds) h =
    let a = length (keep (is_share d 0) ss) in
    let b = length (keep (is_share d 1) ss) in
    let f = length (keep (is_share d 2) ss) in
    let g = length (keep (is_share d 3) ss) in
    let r = ticks_of_all ds ss in
    let n = length (keep is_nobodys ss) in
    let q : a + b + f + g ≡ ticks_of d ss = four_lines d ss h in
    let rest : total (lines_of len ss ds) ≡ (r + n) * len = lines_total len ss ds h in
    let w : (a + b + f + g) * len ≡ a * len + b * len + f * len + g * len = add-mul (a + b + f) g len ∙ ap (λ (x : ℕ). x + g * len) (add-mul (a + b) f len ∙ ap (λ (x : ℕ). x + f * len) (add-mul a b len)) in
    let v : (a + b + f + g) * len + (r + n) * len ≡ (ticks_of d ss + r + n) * len = ap (λ (x : ℕ). x * len + (r + n) * len) q ∙ sym (add-mul (ticks_of d ss) (r + n) len) ∙ ap (λ (x : ℕ). x * len) (omega arith) in
    omega (arith, w, v, rest)

-- an activity that counts is 0 to 3
share_good : (d a : Value) → GoodShare (share d a)
unfolding share active if◌then◌otherwise◌
share_good Nothing a = tt
share_good (Int d) Nothing = tt
share_good (Int d) (Int a) = go (leb a last_activity) refl
  where
    go : (b : Bool) → leb a last_activity ≡ b → GoodShare (if b then assigned d a otherwise unassigned)
    go true e = leb-true a last_activity e
    go false e = tt
share_good (Int d) (Float b) = tt
share_good (Int d) (Truth t) = tt
share_good (Float b) a = tt
share_good (Truth t) a = tt

pub shares_good : (driver activity : ℕ) (rs : List LogRecord) → Each GoodShare (map (λ r. share (shown_in driver r) (shown_in activity r)) rs)
shares_good driver activity [] = tt
shares_good driver activity (r ∷ rs) = (share_good (shown_in driver r) (shown_in activity r), shares_good driver activity rs)

-- The milliseconds of all lines add up to the ticks read times the tick length.
pub adds_up : (driver activity len : ℕ) (rs : List LogRecord) → AddsUp driver activity len rs
unfolding report drivers shares often
adds_up driver activity len rs =
    let ss : List Share = map (λ r. share (shown_in driver r) (shown_in activity r)) (ticks_read rs) in
    lines_total len ss (drivers_after [] ss) (shares_good driver activity (ticks_read rs))
    ∙ ap (λ (x : ℕ). x * len) (all_ticks (drivers_after [] ss) ss (each_once ss [] none_twice) ∙ length-map (ticks_read rs) (λ r. share (shown_in driver r) (shown_in activity r)))
  where
    none_twice : (e : ℕ) → often e [] ≤ 1
    none_twice e = omega arith

-- ---- minutes

-- m is the nearest minute: no more than half a minute away, and of two equally near the later one
pub record Nearest (ms m : ℕ) : Type 0 where
  pub low : m * minute ≤ ms + half_minute
  pub high : ms < m * minute + half_minute

pub minutes_nearest : (ms : ℕ) → Nearest ms (minutes ms)
unfolding minutes
minutes_nearest ms = record { low = omega arith; high = omega arith }

-- there is one such minute
pub nearest_one : (ms m n : ℕ) → Nearest ms m → Nearest ms n → m ≡ n
nearest_one ms m n a b = omega (arith, a.low, a.high, b.low, b.high)

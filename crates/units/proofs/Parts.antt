-- The parts of an entry: a gate, a form and a number are read back as they were, each by its remainder.
use Prim.Native.Nat.{ℕ, ◌%◌, ◌^◌, ◌<◌}
use mathlib.Core.Path.{◌≡◌}
use mathlib.Core.List.{List, [], map}
use lib.ListN.{get_or}
use native.Mathlib.Omega.{arith}
use Rattle.model.specs.Circuit.{Circuit}
use Rattle.model.specs.State.{Send}
use Rattle.units.specs.View.{gate_of, form_of, brings, entry_of, row_of, act_of, event_of, listed_of}

-- each part of an entry
pub gate_of_entry : (g form k : ℕ) → gate_of (entry_of g form k) ≡ g % 2 ^ 16
unfolding gate_of entry_of
gate_of_entry g form k = omega arith

pub form_of_entry : (g form k : ℕ) → form_of (entry_of g form k) ≡ form % 2 ^ 16
unfolding form_of entry_of
form_of_entry g form k = omega arith

pub brings_of_entry : (g form k : ℕ) → brings (entry_of g form k) ≡ k % 2 ^ 16
unfolding brings entry_of
brings_of_entry g form k = omega arith

-- what waits, where the parts are below 65,536
pub act_of_entry : (c : Circuit) (g form k : ℕ) → g < 65536 → form < 65536 → k < 65536 → act_of c (entry_of g form k) ≡ record { gate = g; form = form; row = row_of c form k }
unfolding act_of
act_of_entry c g form k a b d =
    let p : gate_of (entry_of g form k) ≡ g = omega (arith, gate_of_entry g form k) in
    let q : form_of (entry_of g form k) ≡ form = omega (arith, form_of_entry g form k) in
    let r : brings (entry_of g form k) ≡ k = omega (arith, brings_of_entry g form k) in
    rw (p, q, r)

-- a delivered event
pub event_of_entry : (es : List Send) (g e : ℕ) → g < 65536 → e < 65536 → event_of es (entry_of g 1 e) ≡ record { gate = g; form = 1; row = get_or (map (λ m. m.row) es) e [] }
unfolding event_of
event_of_entry es g e a b =
    let p : gate_of (entry_of g 1 e) ≡ g = omega (arith, gate_of_entry g 1 e) in
    let r : brings (entry_of g 1 e) ≡ e = omega (arith, brings_of_entry g 1 e) in
    rw (p, r)

-- a unit begun
pub listed_of_entry : (g form k : ℕ) → g < 65536 → form < 65536 → listed_of (entry_of g form k) ≡ record { gate = g; form = form }
unfolding listed_of
listed_of_entry g form k a b =
    let p : gate_of (entry_of g form k) ≡ g = omega (arith, gate_of_entry g form k) in
    let q : form_of (entry_of g form k) ≡ form = omega (arith, form_of_entry g form k) in
    rw (p, q)

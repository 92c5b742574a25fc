-- loops that fill cells one after the other, or part after part, and running sums
pub mod Loops
-- functions without a loop
pub mod Leaves
-- lists by their elements
pub mod Elements
-- chains: making them, and going along them
pub mod Chaining
-- the members of chains: `chain_members`, `members_most`
pub mod Members
-- gate by gate
pub mod GateByGate
-- the entries: `first_named`, `names_gate`
pub mod Entering
-- tables one behind the other: `cleared`, `table_put`
pub mod Tables
-- the tables of the definition, as they are written
pub mod Written
-- the inputs' cells, and the lists of readers and calls
pub mod Pins
-- all tables together are `cells`: `built`
pub mod Whole

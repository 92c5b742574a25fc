-- order, erasure, limited: the theorems, as statements
pub mod Theorems
-- what holds of each member of a list
pub mod Members
-- what the scheduler's steps did, as data
pub mod Steps
-- nothing is lost and nothing is made
pub mod Weigh
-- a tick as its parts: `kept`, and `tick_ran` (without a stop all that was begun has run)
pub mod Ticks
-- (a) by rank, first raised first
pub mod Ranked
-- the numbers: each raising makes a new one
pub mod Fresh
-- (c) what is carried
pub mod Carry
-- and first in the next late list: `tick_led`
pub mod Leading
-- raised as told, and the worlds of a run: `follows`
pub mod Told
-- what the opening raises to pending begins in the main pass: `begins_pending`
pub mod Pending
-- (a) to (e) of a tick, and of a run: `order`
pub mod Whole
-- with identities and without: `erasure`
pub mod Erase
-- every tick of a run: `every`, `ran_as_told`
pub mod Every
-- what is kept in every world of a run: `run_keeps`; what goes by the units that may still begin, in a tick: `tick_spends`
pub mod Keeps
-- what holds wherever a unit begins: `run_begins`
pub mod Begins
-- ticks that open alike: `tick_alike`
pub mod Alike
-- the limits: `limited`
pub mod Limits
-- equations for proofs of code
pub mod Unroll

-- the areas' lists and the scheduler's
pub mod Filing
-- a turn of a pass, and a pass under way
pub mod Turns
pub mod Going
-- lists that raising leaves as they are
pub mod Kept
-- what is taken next, and how a unit begins
pub mod Beginning
-- the loops of the passes
pub mod Loops
pub mod Lately
pub mod Mainly

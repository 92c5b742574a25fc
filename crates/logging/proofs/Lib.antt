-- outputs and units begun in the areas
pub mod Held
-- the loops
pub mod Turns
-- a whole record
pub mod Records

-- counting ticks by driver
mod Counts
-- the theorems: `adds_up`, `minutes_nearest`
pub mod Theorems
-- what the tables hold after all ticks: `report_is`
mod Tallies
-- the functions that count
mod Passing
-- the functions that write
mod Lines
-- the call
mod Calls

-- the gates and forms of units: the ways out of the small functions, and a row of units
mod Forms
-- what an output shows, and a row of outputs
mod Showing
-- the words of a head
mod Heads
-- a record that begins at a word of a log
mod Records
-- a log, record by record
mod Logs
-- where a reader is not refused, its links show the circuit, and the log is whole: `passed`
pub mod Passing

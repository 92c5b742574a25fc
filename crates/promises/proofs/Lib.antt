-- the theorems: `every_log_whole`, `limited_whole`
pub mod Theorems
-- seconds that are added up stay finite: `plus_time`
pub mod Times
-- what a value on a wire can be
pub mod Values
-- what is used of a circuit that is not refused
pub mod Shape
-- it holds of one: `shaped`, and of what its script gives: `script_gets`
pub mod Circuits
-- what holds of the wires
pub mod Wires
-- so of the states
pub mod States
-- a step and a chain keep it
pub mod Steps
-- so does settling, which raises only units that a record may have
pub mod Settles
-- so do the start and the opening of a tick
pub mod Opens
-- so of worlds, as long as there is no stop
pub mod Worlds
-- ticks count up, a stopped one too: `tick_numbered`
pub mod Numbers
-- the record that a tick writes is good
pub mod Made
-- the log of a run is the words of good records
pub mod Logs
-- all that is promised of a call: `promised`
pub mod Promises

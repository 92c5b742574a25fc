-- every log that a run writes is whole
pub mod Logged
-- all that is promised of a call, in one record
pub mod Promises

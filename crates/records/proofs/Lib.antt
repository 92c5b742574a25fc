-- kinds and contents that pass are those of a value
mod Outputs
-- a whole log is the words of its records: `words_again`
pub mod Again
-- its ticks count up by 1, and only its last record may be a stopped one: `whole_counted`
pub mod Counted
-- the words of good records are whole, and are read back as these records: `good_whole`
pub mod Good
-- where a reader is not refused: `not_refused`
pub mod Refused
-- the theorems: `whole_again`, `same_log`, `records_counted`
pub mod Theorems

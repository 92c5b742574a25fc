-- how many words a record has: `size_shown`, `size_hidden`
pub mod Sizes
-- where its outputs begin
pub mod Outputs
-- a whole log, record by record: `walk_begins`, `fits_here`, `walk_next`, `records_next`
pub mod Walk
-- what an output of a record shows: `value_there`
pub mod Shown

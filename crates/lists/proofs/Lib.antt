-- the two answers of a list: one more entry, one entry less
pub mod Answers
-- stacks
pub mod Stacks
-- rings
pub mod Rings
-- how many entries there are
pub mod Counts

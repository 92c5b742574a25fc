-- a step for each gate that is entered
pub mod Passing
-- sums that stop at 50,000,001
pub mod Capped
-- the gates that a round places
pub mod Newly
-- the rounds in which each gate gets its number
pub mod Numbering
-- the figures from the numbers
pub mod Starts
-- each gate of a word gets its number
pub mod Walked
-- the ways out of a call
pub mod Answers

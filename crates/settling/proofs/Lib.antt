-- raising one after the other, round by round
pub mod Rounds
-- what a change leads to, and a check
pub mod Changes
-- the rounds of settling
pub mod Turns

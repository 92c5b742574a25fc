-- a table lent, and come back
pub mod Lending
-- entries
pub mod Parts
-- lists by rank
pub mod Ranks
-- filing is the scheduler's pushing
pub mod Pushing
pub mod Filing
-- the place of what is put off
pub mod Places
pub mod Ticks
pub mod Calling
pub mod Beginning
pub mod Sending
-- how many wait
pub mod Counting

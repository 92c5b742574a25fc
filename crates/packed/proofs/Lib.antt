-- a test after another, and lists compared
pub mod Comparing
-- the front of a buffer
pub mod Fitting
-- words that were read
pub mod Reading

-- how code works the first figure out
pub mod Numbers
-- what is right of a call for the two figures
pub mod Call

-- Floats that are zero, and those with equal bits
pub mod Floats
-- a value and its two words: `made_again`, `taken_apart`; one law for each way through the code
pub mod Laws
-- rows of values by their kinds and their contents: `row_again`
pub mod Mapped

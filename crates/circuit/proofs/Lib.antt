-- the sizes of a circuit and of a script: `sized`, `script_sized`
pub mod Sized
-- loops over columns of words: `all_next`, `pairs_next`, `tally_next`, `count_yes` and their ends
pub mod Loops
-- what the loops show of questions 3, 7, 9 and 10; a script's refusal
pub mod Parts
-- the bits of floats from 0.0 on are in the order of the floats: `minus_zero`, `by_bits`
pub mod Lengths
-- loops over numbers in a row
pub mod Turns
-- chains over a range of numbers
pub mod Ranges
-- a match on a pin or an output
pub mod Cases
-- questions 4 and 5: the ways out of the small functions
pub mod Asking
-- questions 4 and 5: one test of each input and of each call
pub mod Rows
-- question 19: calls, bodies and entries
pub mod Nested
-- binary digits of words
pub mod Digits
-- a loop that makes a word of gates
pub mod Descent
-- rounds over gates, by words of gates
pub mod Unplaced
-- question 6: what a gate reads, and the rounds
pub mod Sources
-- what a refusal is told with
pub mod Numbers
-- the questions one after the other
pub mod Order
-- what is known where nothing is refused: an order of the pure gates, and that the links show the circuit
pub mod Theorems

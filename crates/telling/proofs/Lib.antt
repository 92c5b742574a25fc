-- the numbers of an answer, code's and the definition's: `number_told`, `end_told`, `all_told`
pub mod Numbers
-- words told one behind the other: `put_over`, `over_next`
pub mod Telling

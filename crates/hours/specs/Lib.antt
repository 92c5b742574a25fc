-- the report, and what the call answers
pub mod Hours
-- reports, computed
pub mod Examples
-- what is right of a call
pub mod Call
-- how the ticks are counted in one pass
pub mod Tally
-- what contracts say of the code's tally
pub mod Counted

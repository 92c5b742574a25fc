pub mod Rows
pub mod Making
pub mod Wiring
pub mod Timing
pub mod Arms

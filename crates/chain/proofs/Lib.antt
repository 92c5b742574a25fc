pub mod Fits
pub mod Rows
pub mod Runs
pub mod Turns

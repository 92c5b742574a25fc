pub mod Runs
pub mod Ring

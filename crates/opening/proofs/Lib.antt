pub mod Raises
pub mod Stages
pub mod Acts
pub mod Rows
pub mod Advancing
pub mod Ticks

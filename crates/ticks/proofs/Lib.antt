pub mod Parts
pub mod Closing
pub mod Stages
pub mod Whole

pub mod Step
pub mod Examples

pub mod Schedule
pub mod Promise
pub mod Erasure
pub mod Limits
pub mod Pending
pub mod Example
pub mod Keeping

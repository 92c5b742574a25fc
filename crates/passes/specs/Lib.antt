pub mod Waiting
pub mod Passes
pub mod Taking
pub mod Lent

pub mod Narrowing
pub mod Examples

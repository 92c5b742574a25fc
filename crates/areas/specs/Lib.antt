pub mod Areas
pub mod Lent

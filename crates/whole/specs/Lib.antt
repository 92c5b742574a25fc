pub mod Lent
pub mod Asked

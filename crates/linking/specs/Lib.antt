pub mod Building
pub mod Lent

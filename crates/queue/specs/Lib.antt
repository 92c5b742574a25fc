pub mod Queue
pub mod Examples
pub mod Lent

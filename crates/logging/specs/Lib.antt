pub mod Log
pub mod Rows
pub mod Lent

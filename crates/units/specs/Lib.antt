pub mod View
pub mod Raising
pub mod Calls
pub mod Lent

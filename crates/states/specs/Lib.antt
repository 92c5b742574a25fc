pub mod View
pub mod Slots
pub mod Lent

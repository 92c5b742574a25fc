pub mod Ring
pub mod Slots
pub mod Laws

pub mod Settling
pub mod Rounds
pub mod Lent

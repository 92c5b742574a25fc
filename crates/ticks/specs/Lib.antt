pub mod Ticks
pub mod Stages
pub mod Lent

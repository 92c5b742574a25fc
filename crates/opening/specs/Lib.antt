pub mod Opening
pub mod Stages
pub mod Lent

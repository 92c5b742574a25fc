pub mod Held
pub mod View
pub mod Marking
pub mod Checks
pub mod Start
pub mod Lent

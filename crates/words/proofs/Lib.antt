pub mod Laws
pub mod Access
pub mod Tables
pub mod Putting
pub mod Filling

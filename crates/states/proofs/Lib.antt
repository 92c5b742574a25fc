pub mod Lists
pub mod Stores
pub mod Lending
pub mod Counts
pub mod Firing

pub mod Numbers
pub mod Lending
pub mod Starting

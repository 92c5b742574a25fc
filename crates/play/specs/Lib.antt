-- What the contracts of the program cite.
pub mod Outputs
pub mod Text

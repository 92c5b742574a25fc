-- What the contracts of the program cite.
pub mod Case
pub mod SizeDue
pub mod SizeMet
pub mod Tally

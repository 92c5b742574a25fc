pub mod Words
pub mod Tables
pub mod Bits
pub mod Slices
pub mod Options
pub mod Examples

pub mod Bits
pub mod Ints
pub mod Rounding
pub mod Narrow

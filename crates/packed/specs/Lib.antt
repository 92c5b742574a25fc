-- What the contracts cite.
pub mod Read
pub mod Same
pub mod Tally

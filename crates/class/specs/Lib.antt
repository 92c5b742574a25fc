pub mod Call
pub mod Scripts

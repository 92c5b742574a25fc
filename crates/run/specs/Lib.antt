pub mod Running
pub mod Call
pub mod Told

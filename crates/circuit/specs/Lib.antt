pub mod Bodies
pub mod Gates
pub mod Numbers
pub mod Refusals

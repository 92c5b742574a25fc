pub mod Buffers
pub mod Countdowns
pub mod Firing
pub mod Kept
pub mod Rings
pub mod Timers

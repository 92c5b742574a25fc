pub mod Entering
pub mod Beginning
pub mod Finishing

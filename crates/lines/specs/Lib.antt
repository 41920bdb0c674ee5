pub mod Logs
pub mod Held
pub mod Framed
pub mod Kept
pub mod Slots

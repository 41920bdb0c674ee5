pub mod Words
pub mod Heads
pub mod Round

pub mod State
pub mod Law

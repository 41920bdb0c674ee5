pub mod Refusals
pub mod Plans
pub mod Reading
pub mod View

pub mod Steps
pub mod Serving
pub mod Soundness

pub mod Posting
pub mod Crowds
pub mod Servings
pub mod Kept
pub mod Turns

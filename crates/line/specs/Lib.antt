pub mod Kinds
pub mod Refusals
pub mod Messages
pub mod View
pub mod Lists

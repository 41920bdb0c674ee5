pub mod Making
pub mod Totals
pub mod Postings

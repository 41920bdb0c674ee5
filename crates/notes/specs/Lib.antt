pub mod Sets
pub mod Queues
pub mod Notes
pub mod View

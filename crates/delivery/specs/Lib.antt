pub mod Deliveries
pub mod Taking

pub mod Logs
pub mod Store
pub mod Framing
pub mod Slots
pub mod Buffer
pub mod Cut
pub mod Plain

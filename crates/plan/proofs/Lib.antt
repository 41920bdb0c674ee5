pub mod OneMore
pub mod Down

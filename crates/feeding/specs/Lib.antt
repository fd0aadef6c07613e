pub mod Engine
pub mod Chain

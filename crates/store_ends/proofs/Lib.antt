pub mod Files
pub mod Past

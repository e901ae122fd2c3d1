pub mod Chains
pub mod Left
pub mod Next
pub mod Shapes
pub mod Walks

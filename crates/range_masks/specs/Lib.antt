pub mod Held
pub mod HeldLaws
pub mod Masks
pub mod May
pub mod Most
pub mod Next

pub mod Form
pub mod Held
pub mod Items
pub mod Script
pub mod State

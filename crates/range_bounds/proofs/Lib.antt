pub mod Covers
pub mod Falls
pub mod Leads
pub mod Members
pub mod Mosts
pub mod Togethers
pub mod Told

pub mod Causes
pub mod Failing
pub mod Front
pub mod FrontLaws
pub mod Memory

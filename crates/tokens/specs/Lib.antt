pub mod Content
pub mod Fields
pub mod Keys
pub mod Open
pub mod Words

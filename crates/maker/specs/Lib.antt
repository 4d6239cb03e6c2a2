pub mod Finding
pub mod Promises
pub mod Words

pub mod Finding
pub mod Judged
pub mod Answered
pub mod Order
pub mod Promises
pub mod Words
pub mod Bad
pub mod Made

pub mod State
pub mod Answers
pub mod Promises
pub mod Tally
pub mod Seats
pub mod Present
pub mod FilePromises

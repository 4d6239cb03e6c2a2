pub mod Entries
pub mod Heads
pub mod Calls
pub mod RoundTrip

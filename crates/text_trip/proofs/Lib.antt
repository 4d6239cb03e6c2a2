pub mod Clear
pub mod Said
pub mod Passing
pub mod Sounds
pub mod RoundTrip
pub mod Sizes

pub mod Decoding
pub mod OneRing

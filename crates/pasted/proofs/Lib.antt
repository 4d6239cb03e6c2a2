pub mod AsGiven
pub mod OneRing

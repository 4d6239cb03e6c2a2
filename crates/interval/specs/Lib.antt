pub mod Interval
pub mod Ready
pub mod Taken
pub mod Folded
pub mod Rings

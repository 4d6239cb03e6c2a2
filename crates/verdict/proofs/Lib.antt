pub mod Bound
pub mod Weighed
pub mod Analysing
pub mod Judging
pub mod Weighing
pub mod Line

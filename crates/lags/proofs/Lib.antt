pub mod Intervals
pub mod Lags
pub mod States
pub mod Stays

pub mod Lags
pub mod Stays

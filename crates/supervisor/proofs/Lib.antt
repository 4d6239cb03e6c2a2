pub mod Small
pub mod Values
pub mod Only
pub mod Lists
pub mod Boundary

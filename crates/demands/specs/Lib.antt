pub mod Demands
pub mod Plain
pub mod Lists

pub mod States
pub mod Answered
pub mod Demands
pub mod Plain
pub mod Lists

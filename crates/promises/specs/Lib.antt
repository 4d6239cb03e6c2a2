pub mod Steps
pub mod Demands

pub mod Sets
pub mod Outlined
pub mod Cuts
pub mod Laying
pub mod Listed

pub mod Layout
pub mod Outlined
pub mod Listed
pub mod Ties

pub mod ListOnly
pub mod Shown
pub mod TextOnly
pub mod Answers

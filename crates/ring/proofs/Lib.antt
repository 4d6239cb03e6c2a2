pub mod Clockwise
pub mod Routes
pub mod Mirror
pub mod Rows
pub mod Cut
pub mod Words
pub mod OnLine

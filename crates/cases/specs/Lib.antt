pub mod Reading
pub mod Tables

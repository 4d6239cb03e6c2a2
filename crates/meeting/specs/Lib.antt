pub mod Meet
pub mod Told

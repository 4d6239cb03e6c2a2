pub mod Stretches
pub mod Parted
pub mod Stretched
pub mod Ends
pub mod Walk
pub mod Course

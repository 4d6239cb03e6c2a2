pub mod Only
pub mod Small

pub mod Faults
pub mod ByRow
pub mod RowSizes
pub mod Reasons

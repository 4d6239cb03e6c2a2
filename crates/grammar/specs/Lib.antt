pub mod TableText
pub mod Reports

pub mod Even
pub mod Periods

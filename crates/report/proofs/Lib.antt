pub mod Cuts
pub mod Printed
pub mod Only
pub mod Plain
pub mod RaisedShort
pub mod RaisedLines
pub mod Members
pub mod MeetOnly

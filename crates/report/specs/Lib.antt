pub mod Rendered
pub mod Plain
pub mod RaisedLines
pub mod MeetLines

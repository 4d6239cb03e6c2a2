pub mod Asked
pub mod Only
pub mod Left
pub mod Meetings
pub mod CrowdAsked
pub mod CrowdOnly

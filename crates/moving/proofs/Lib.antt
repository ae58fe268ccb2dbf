pub mod Rows
pub mod Meetings

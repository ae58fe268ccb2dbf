pub mod GrowLaws
pub mod CodeLaws
pub mod Meetings
pub mod MeetLaws
pub mod StoredLaws

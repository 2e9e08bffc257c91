-- The refusals of a station's calls, and its changes.
pub mod Answers

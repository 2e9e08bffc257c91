-- The definitions that the contracts of this crate cite, and document 01's sentence on the switch row, entry by entry (Entries).
pub mod Switches
pub mod Entries
pub mod State
pub mod Cases
pub mod ApHistory

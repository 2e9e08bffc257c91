-- The definitions that the contracts of this crate cite, what an accepted answer says, records whose altitude is not looked at, and the cases of document 01.
pub mod Acceptance
pub mod Refusals
pub mod Altitude
pub mod Cases

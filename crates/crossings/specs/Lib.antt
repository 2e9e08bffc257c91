-- The definitions that the contracts of this crate cite (Crossings; Stored: the way of the code).
pub mod Crossings
pub mod Stored

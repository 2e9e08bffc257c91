-- The definitions that the contracts of this crate cite, and laws on the lowest field (Lowest).
pub mod KnownRecord
pub mod Lowest

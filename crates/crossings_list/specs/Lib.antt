-- The definitions that the contracts of this crate cite, and the theorems on them.
pub mod CrossingsList
pub mod Theorems

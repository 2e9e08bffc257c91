-- The definition that the contract of this crate cites, and what it means for a user (Theorems).
pub mod VariedConstants
pub mod Theorems

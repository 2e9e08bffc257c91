-- The definitions that the contracts of this crate cite (Descent; Stored: the way of the code), and the theorems on them.
pub mod Descent
pub mod Stored
pub mod Theorems

-- The definitions that contracts and theorems cite.
pub mod Series
pub mod Theorems

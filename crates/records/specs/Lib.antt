-- The definitions that the contracts of this crate cite (Records), and what they say record by record (Theorems).
pub mod Records
pub mod Theorems

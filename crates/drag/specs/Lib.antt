-- The definitions that the contract of this crate cites (Drag), and what holds of gtd7d: its part of demand 3 (Theorems).
pub mod Drag
pub mod Length
pub mod Theorems

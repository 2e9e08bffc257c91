-- The definitions that the contracts of this crate cite (Atmosphere), gtd7's numbers by the way that an altitude takes (Rows), and why it needs no
-- State (Answers).
pub mod Atmosphere
pub mod Rows
pub mod Answers

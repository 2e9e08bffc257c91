-- The fields that count: what demand 3's list does not shut off.
pub mod Counts

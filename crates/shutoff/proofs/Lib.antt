-- Demand 3's theorem (Theorems) and the proof behind it: Zeroed has lst, f107a and f107, which W-210's rows multiply by zero, Agree the other fields;
-- switch 10's row for the expansions (Ten), and the coefficient that they raise (Raised).
pub mod Agree
pub mod Zeroed
pub mod Theorems
pub mod Ten
pub mod Raised

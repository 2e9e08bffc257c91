-- The definitions that the contracts of this crate cite (Gts7Arithmetic), and a site from what is at hand (Given).
pub mod Gts7Arithmetic
pub mod Given

-- The definitions that the contracts of this crate cite (Footing), and of which values the row below 72.5 km is made (Same).
pub mod Footing
pub mod Same

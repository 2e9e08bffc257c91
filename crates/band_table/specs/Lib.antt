-- The definitions that the contracts of this crate cite.
pub mod Band
pub mod Table
pub mod Kilometres

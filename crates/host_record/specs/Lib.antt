-- The definitions that the contracts of this crate cite.
pub mod Record
pub mod Nine

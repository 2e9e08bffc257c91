-- The definitions that the contracts of this crate, and of those over it, cite.
pub mod Float
pub mod Fixed

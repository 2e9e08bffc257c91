-- The definitions that the contracts of this crate cite (Column; Parts: what is stored).
pub mod Column
pub mod Parts

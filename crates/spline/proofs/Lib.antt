-- Laws that the proofs of this crate cite.
pub mod Walks
pub mod Steps
pub mod Laws
pub mod Theorems

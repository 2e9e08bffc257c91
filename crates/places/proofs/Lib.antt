-- Laws that the proofs of this crate cite.
pub mod Order
pub mod Placed

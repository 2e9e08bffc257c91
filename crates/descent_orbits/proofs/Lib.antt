-- What the proofs of this crate, and of the one over it, share.
pub mod Laws
pub mod Turns

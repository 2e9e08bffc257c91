-- What the proofs of this crate share.
pub mod Sum
pub mod Laws

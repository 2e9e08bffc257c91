-- What the proofs of this crate share, with those of the crates above.
pub mod NineLaws
pub mod SliceLaws

-- What the proofs of this crate share.
pub mod Day
pub mod Lowest
pub mod Judging

-- Laws that several proofs cite.
pub mod Bound
pub mod Cases
pub mod Reduce

-- Laws that the proofs of this crate cite.
-- Refusals: the answer by way of the record with 0 in the fields that are not known, and where it is 1.
pub mod Laws
pub mod Refusals

-- Laws that several proofs cite.
pub mod TrigBound
pub mod TrigCases

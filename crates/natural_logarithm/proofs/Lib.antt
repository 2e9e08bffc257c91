-- Laws that several proofs cite.
pub mod LogBound
pub mod LogCases
pub mod LogHalves

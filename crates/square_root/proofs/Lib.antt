-- Laws that several proofs cite.
pub mod Squares
pub mod RootCases

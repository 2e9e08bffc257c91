-- Laws that several proofs cite.
pub mod Product
pub mod Arms
pub mod Choice
pub mod Decode
pub mod Bits
pub mod Assemble
pub mod Table
pub mod Range
pub mod Negative
pub mod Rounded

-- What the calls of this crate give.
pub mod Mixing

-- The definitions that the contracts of this crate cite, and the case of document 01.
pub mod ExpansionCalls
pub mod Cases

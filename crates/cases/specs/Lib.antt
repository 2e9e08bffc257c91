-- S1 to S10 of document 01.
pub mod Cases

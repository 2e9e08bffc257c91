-- The outcome of a call (Outcome), and what the calls give (Calls).
pub mod Outcome
pub mod Calls

-- What the calls give.
pub mod Calls

-- The plans that this crate's contracts cite stand in the crate stages.
pub mod Turbopauses

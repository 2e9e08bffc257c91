-- The definitions that the contracts of this crate cite, and what the steps do to the mark (Mark).
pub mod Fields
pub mod Mark
pub mod Plan

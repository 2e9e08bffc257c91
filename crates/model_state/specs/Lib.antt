-- The State that gtd7 leaves, and when its mark says that dm28 was set.
pub mod Left
pub mod Mark

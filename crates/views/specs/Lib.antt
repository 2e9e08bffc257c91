-- The View and its cosines, and what a View knows of itself (Shared).
pub mod Phases
pub mod View
pub mod Shared

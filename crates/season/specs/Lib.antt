-- The season.
pub mod Season

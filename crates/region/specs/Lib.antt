-- What a region fixes and the row in it.
pub mod Region

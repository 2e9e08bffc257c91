-- What answers and indices say, for every crate that has them.
pub mod Index

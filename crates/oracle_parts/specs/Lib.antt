-- What the host sees of an outcome.
pub mod OracleParts

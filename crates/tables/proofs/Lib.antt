-- The rule that holds of every number in the tables.
pub mod Rule

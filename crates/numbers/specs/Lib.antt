-- The vocabulary of every definition of the model.
pub mod Arithmetic
pub mod Literals
pub mod Constants
pub mod Tests
pub mod Booleans

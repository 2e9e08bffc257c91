-- The first of the nine that is unfit, and what the answer with other constants means for a user.
pub mod Nine
pub mod Theorems

-- The definitions that the contracts of this crate cite: the model's species (Species), the altitudes that they read (Places), and each species from
-- what no altitude changes (Rooted).
pub mod Species
pub mod Places
pub mod Rooted

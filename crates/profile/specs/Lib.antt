-- Gravity, scale height, the profiles of temperature and density, and densu in two parts.
pub mod Gravity
pub mod Curve
pub mod Profile
pub mod Point

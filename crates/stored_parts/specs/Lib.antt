-- The parts that altitudes read (Parts), which parts hold which (Held), and parts that are added when an altitude is reached (Reached).
pub mod Parts
pub mod Held
pub mod Reached

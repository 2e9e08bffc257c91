-- Cubic splines: interpolation, the integral, the second derivatives.
pub mod Nodes
pub mod Sweep

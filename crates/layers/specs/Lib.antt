-- What a layer's nodes fix and what an altitude reads there, with the laws that they are densm (Layers).
pub mod Layers

-- What the promises pin down.
pub mod Demands

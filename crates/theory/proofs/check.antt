-- The check decides soundness.
pub mod Decides

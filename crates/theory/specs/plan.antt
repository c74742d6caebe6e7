-- Widths for a capacity and a rate; the limit of a merge.
pub mod Clamp
pub mod Limits
pub mod Needed
pub mod Rates

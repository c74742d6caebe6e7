-- Digits, fields, bytes, counts, floats.
pub mod Bytes
pub mod Count
pub mod Field
pub mod Floats
pub mod From
pub mod Lowest
pub mod Packed
pub mod WordLaws

-- The promises of bits.
pub mod Select
pub mod Lowest

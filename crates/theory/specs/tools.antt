-- Sums, choices and cases.
pub mod Cases
pub mod Choose
pub mod Tells
pub mod Total

-- The check's two rounds.
pub mod Accepts
pub mod Agree
pub mod Buffer
pub mod Complete
pub mod Decode
pub mod Local
pub mod Loops
pub mod Queue
pub mod ReadBack
pub mod Rounds
pub mod Step
pub mod WrapExample

-- The promises of layout, and what is said of a record.
pub mod Fresh
pub mod Judging
pub mod Lent
pub mod Outcomes
pub mod Pinned
pub mod Plans
pub mod Records
pub mod Refusals
pub mod Shapes
pub mod Verdicts
pub mod Walk
pub mod Whole

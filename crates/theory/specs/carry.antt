-- The carry: the walk round the slots.
pub mod Carry
pub mod CarryMore
pub mod Walk

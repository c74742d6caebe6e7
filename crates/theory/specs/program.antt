-- What the check program writes.
pub mod Enough
pub mod Files
pub mod Lines
pub mod Numerals
pub mod TextByDue

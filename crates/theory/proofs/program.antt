-- What the check program writes for a sound list.
pub mod Files
pub mod TextByDue

-- The promises of filter, and what follows of them.
pub mod Answers
pub mod Asking
pub mod Listing
pub mod Lookup
pub mod Moving
pub mod Occupied
pub mod Offsets
pub mod Pinned
pub mod Places
pub mod Reading
pub mod Runs
pub mod Says
pub mod Scan
pub mod Steps

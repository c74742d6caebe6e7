-- The answers as plain structs, and what the exports promise.
pub mod Family
pub mod Growing
pub mod Listing
pub mod Merging
pub mod Pinned
pub mod Planning
pub mod Reading
pub mod Shown
pub mod Writing

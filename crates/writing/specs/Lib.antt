-- The promises of writing, and what follows of them.
pub mod CopyIn
pub mod CopyOut
pub mod Insert
pub mod Kept
pub mod Pinned
pub mod Remove
pub mod Says
pub mod Shifted
pub mod Traces
pub mod Writing

-- Holdings: runs, copies, one more, one fewer, merged lists.
pub mod Adding
pub mod Copies
pub mod Fewer
pub mod Firsts
pub mod Flat
pub mod Last
pub mod MergeLength
pub mod More
pub mod NoTrace
pub mod OneRun
pub mod RuleCases
pub mod Runs
pub mod Scan
pub mod Seek
pub mod Spot
pub mod StillHolding
pub mod UpTo

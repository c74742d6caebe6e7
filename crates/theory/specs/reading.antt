-- What is told from a buffer: runs, offsets, free slots, places.
pub mod BehindRun
pub mod FreeSlot
pub mod LastShifted
pub mod ListingPlaces
pub mod Offsets
pub mod Ring
pub mod RunAt
pub mod RunEnd
pub mod RunendRank
pub mod StartNear
pub mod Walks

-- Where things stand in a buffer, and that views and bytes are an image.
pub mod Block
pub mod ByViews
pub mod CountsTold
pub mod EmptyImage
pub mod Filled
pub mod ImageBytes
pub mod LaidOut
pub mod SameBuffer
pub mod Sizes
pub mod Tail
pub mod ViewBytes

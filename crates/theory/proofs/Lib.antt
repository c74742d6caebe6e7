-- The theorems that rest on what the image says of the four views.
pub mod Examples
pub mod check
pub mod images
pub mod program
pub mod refusals

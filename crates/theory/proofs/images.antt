-- The image by its views.
pub mod ImageViews
pub mod IsImage

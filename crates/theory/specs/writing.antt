-- What the writes of an insert and of a remove make of an image.
pub mod Inserting
pub mod OneFewer
pub mod OneMore
pub mod PutIn
pub mod RaisedOffsets
pub mod Removing
pub mod RenewedOffsets
pub mod SaturatedOffsets
pub mod Slide

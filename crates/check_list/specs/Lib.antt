-- What the check program promises.
pub mod Beginning
pub mod Steps
pub mod Written

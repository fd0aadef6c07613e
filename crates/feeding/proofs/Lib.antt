pub mod Going
pub mod Rooms
pub mod FirstLines
pub mod Parts
pub mod Endings
pub mod Scripts
pub mod Fixed

pub mod Bookings
pub mod Effects
pub mod Stores
pub mod Whole
pub mod Refusing
pub mod Stepped
pub mod Boards

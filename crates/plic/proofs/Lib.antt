pub mod Unsound
pub mod Reported
pub mod Once

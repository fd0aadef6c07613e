pub mod Words
pub mod Digits
pub mod Last
pub mod Asked
pub mod Letters
pub mod Openings
pub mod Places
pub mod Fixed

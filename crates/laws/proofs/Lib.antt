pub mod Fold
pub mod Bits
pub mod Words
pub mod Once
pub mod Lists
pub mod Tables
pub mod Skips

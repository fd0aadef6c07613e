pub mod Quickly
pub mod Examples
pub mod Accounted

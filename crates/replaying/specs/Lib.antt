pub mod Replay
pub mod Text
pub mod Pieces
pub mod Script

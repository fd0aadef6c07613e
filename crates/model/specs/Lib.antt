pub mod Board
pub mod Refusals
pub mod Waits
pub mod Life
pub mod Registers
pub mod Sound
pub mod Calls
pub mod Run

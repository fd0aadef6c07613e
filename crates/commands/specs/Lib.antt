pub mod Grammar
pub mod Leaves

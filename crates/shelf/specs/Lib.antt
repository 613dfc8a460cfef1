pub mod Models
pub mod Cells
pub mod Queues
pub mod Pairs

pub mod Choosing
pub mod Ordering

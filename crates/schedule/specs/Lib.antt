pub mod Batches
pub mod Jobs
pub mod Theorems
pub mod Examples

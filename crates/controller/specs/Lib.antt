pub mod Events
pub mod Turns
pub mod Choices
pub mod Machines

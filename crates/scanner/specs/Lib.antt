pub mod Lines
pub mod Parsing
pub mod Plans
pub mod Texts

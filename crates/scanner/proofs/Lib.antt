pub mod Planning
pub mod Reading

pub mod Entry
pub mod Layout
pub mod Status

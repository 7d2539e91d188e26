pub mod Held
pub mod Layout
pub mod Left
pub mod Reading

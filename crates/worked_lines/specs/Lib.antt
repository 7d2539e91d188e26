pub mod Further
pub mod Lines
pub mod Worked

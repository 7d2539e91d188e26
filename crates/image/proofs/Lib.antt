pub mod Holding
pub mod Loading
pub mod Offsets
pub mod Telling

pub mod Circuits
pub mod Rates
pub mod Sharing

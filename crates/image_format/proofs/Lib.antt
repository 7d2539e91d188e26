pub mod Examples
pub mod Figures
pub mod Gap
pub mod Readings
pub mod Steps
pub mod Total
pub mod Views
pub mod Walk

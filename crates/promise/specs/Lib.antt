pub mod Bandwidth
pub mod Lanes
pub mod Ledger
pub mod Promise

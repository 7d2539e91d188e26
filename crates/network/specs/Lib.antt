pub mod Checks
pub mod MainRoute
pub mod Network
pub mod Refusals
pub mod Round
pub mod Routes
pub mod Table

pub mod Costs
pub mod Orders

pub mod Figures
pub mod Verbs
pub mod Tallies
pub mod Decimals

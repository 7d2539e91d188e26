pub mod Ends
pub mod Counts
pub mod Lists
pub mod Tables
pub mod Told
pub mod Verdicts

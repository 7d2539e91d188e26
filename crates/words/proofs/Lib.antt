pub mod Founding
pub mod Naming
pub mod VerbsApart

pub mod Arcs
pub mod Planned

pub mod Measure
pub mod Shared
pub mod ThreeScales
pub mod ThreeScalesLawful

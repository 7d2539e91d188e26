pub mod ArcPairs
pub mod ArcRoutes
pub mod Carrying
pub mod LaneCount
pub mod Members
pub mod PairBandwidth
pub mod Plans

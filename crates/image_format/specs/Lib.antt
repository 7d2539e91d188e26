pub mod Claims
pub mod Image

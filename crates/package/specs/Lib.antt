pub mod Common
pub mod Index
pub mod Search
pub mod SearchLaws
pub mod Parts
pub mod Package
pub mod UnitBytes

pub mod Computing
pub mod WorkedProofs

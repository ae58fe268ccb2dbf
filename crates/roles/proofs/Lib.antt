pub mod Cases
pub mod KeyMoves

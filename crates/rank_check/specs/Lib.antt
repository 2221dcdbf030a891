pub mod Graphs
pub mod Ranking

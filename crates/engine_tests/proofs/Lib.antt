pub mod OddShores

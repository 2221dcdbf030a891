pub mod LatchClauses

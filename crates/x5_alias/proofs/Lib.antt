pub mod NextTurns

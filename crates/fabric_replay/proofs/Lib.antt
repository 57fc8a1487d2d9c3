pub mod WordsLemmas
pub mod SessionsOfLines
pub mod LinesOfPieces
pub mod WordOfParts
pub mod Ends
mod SoFar
mod Completes

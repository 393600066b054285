pub mod LinkTests
pub mod SettledLinks
pub mod ResolvedSectors
pub mod ReadingPieces

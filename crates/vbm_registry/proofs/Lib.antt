pub mod Bytes
pub mod PartLaws
pub mod GrammarLaws
pub mod FileAgain
mod ListLoops
mod ListEnds
mod RisingEntries
mod Bases
pub mod ListLaws
pub mod RenumberedLaws
pub mod PlaceTests
pub mod CountedLists
pub mod MediaListed
pub mod MakingsListed
pub mod FieldsApart
pub mod FileLengths
pub mod NamesRead
pub mod InnersListed
pub mod SlotsListed
pub mod SnapshotsListed
pub mod MachinesListed
pub mod NamesAtPlaces
pub mod InnersNamed
pub mod SlotsNamed
pub mod TreesListed
pub mod MachinesNamed
pub mod DecodedRules
pub mod LowPlaces
pub mod Counts
pub mod InnerCounts
pub mod NamedPlaces
pub mod KeptAtPlaces
pub mod NamesFit
pub mod Tallied

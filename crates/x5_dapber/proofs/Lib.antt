mod ArgumentsSpelled
mod ArgumentsWritten
pub mod Asked
pub mod AttributeParts
pub mod Clock
pub mod Coming
pub mod Components
pub mod Decoding
pub mod DirectArgument
pub mod FilterLevels
mod FilterMembers
mod FilterRows
pub mod Fitting
mod Invokes
pub mod Invoking
pub mod Levels
pub mod Members
pub mod NamesShort
pub mod Octets
pub mod ReadIsSayable
pub mod RequestRooms
mod RequestsSpelled
pub mod Rooms
mod Selections
pub mod Sets
pub mod Tags
mod UsualFilters
mod UsualSelections

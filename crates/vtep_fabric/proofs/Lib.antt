mod Rosters
pub mod HexText
pub mod Ascending
pub mod Bindings
pub mod NoFraction
pub mod Additions
pub mod Happen
pub mod Installed
pub mod Settles
pub mod LineAnswers
pub mod LineEvents
pub mod LinesDone
pub mod Carried
pub mod MacTexts
pub mod AclLists
pub mod AclOrder
pub mod AclNumbers
mod Worked

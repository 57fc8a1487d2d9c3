pub mod Noted
pub mod Updates
pub mod Forms
pub mod Requests
pub mod Seen
pub mod OneRow
pub mod Mirrored

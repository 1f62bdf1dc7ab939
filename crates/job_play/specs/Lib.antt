pub mod Reports
pub mod Playing
pub mod Given
pub mod Handing
pub mod Rooms
pub mod PlayAnswer
pub mod OneAnswer
pub mod Pasts

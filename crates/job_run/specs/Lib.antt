pub mod RunAnswer
pub mod OneAnswer
pub mod Headlines

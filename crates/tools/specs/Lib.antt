pub mod CheckAnswer
pub mod PlanAnswer
pub mod Ending
pub mod OneAnswer
pub mod Explanation

pub mod Bars
pub mod BarsInside
pub mod Deaths
pub mod Workers
pub mod View

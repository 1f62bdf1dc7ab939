mod Bars
mod Limits
mod PlaceLists
mod Unfit

pub mod Named
pub mod Words
pub mod Numbers
pub mod Parts
pub mod FitPlaces
pub mod OneWave
pub mod Tidy
pub mod Read

mod Chains
mod Halves
mod Looking
mod Planning
mod Returning
mod Telling
mod Working

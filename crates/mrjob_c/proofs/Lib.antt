mod Failing
mod Plain

mod Crossing
mod Possible

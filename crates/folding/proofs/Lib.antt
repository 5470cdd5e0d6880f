-- What belongs to no one function.
mod Bounds
mod Turns

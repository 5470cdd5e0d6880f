-- The laws behind `desk`.
mod Tellings
mod Doings

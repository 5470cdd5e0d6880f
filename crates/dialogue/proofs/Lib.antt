-- The laws that the functions' own files cite.
mod Turns
mod Steps

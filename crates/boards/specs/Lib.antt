-- The definitions that the contracts of `boards` cite: 01, "The record and the board list", and the outward F9 of "The six commands".
pub mod Boards
pub mod Report

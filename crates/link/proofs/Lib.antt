-- The laws that the functions' own files cite.
mod Rings
pub mod Queues

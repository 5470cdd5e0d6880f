-- The laws that the functions' own files cite; the program cites the claim's proof.
pub mod Sayings

-- The definitions that the contracts of `packets` cite: 01, "How the session answers", FD; and the claim of document 02, K2.
pub mod FD
pub mod Repeats

-- The definitions that the contracts of `agreement` cite, in the order of 01, "How the session answers".
pub mod Versions
pub mod FA
pub mod FB
pub mod FC

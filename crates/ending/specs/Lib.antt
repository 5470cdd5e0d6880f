-- The definitions that the contracts of `ending` cite: 01, "How the session answers", FE; document 02, K5.
pub mod FE
pub mod Portions
pub mod Results

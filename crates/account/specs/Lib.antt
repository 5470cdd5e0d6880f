-- The definitions that the contracts of `account` cite.
pub mod Texts
pub mod Accounts

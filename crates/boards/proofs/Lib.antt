-- The laws that belong to no one function, by subject.
mod Lists
pub mod Places
pub mod ListRules
pub mod Reports

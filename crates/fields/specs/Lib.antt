-- The definitions that the contracts of `fields` cite.
pub mod Choices
pub mod Fields
pub mod SenderFields

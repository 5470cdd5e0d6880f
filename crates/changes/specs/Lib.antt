-- The definitions that the contracts of `changes` cite.
pub mod BoardLists
pub mod RecordChanges
pub mod SenderChanges
pub mod Examples

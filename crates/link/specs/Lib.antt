-- The definitions that the contracts of `link` cite, and the claim about its queue.
pub mod Links
pub mod Queues
pub mod Scripts

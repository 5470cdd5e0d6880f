-- The definitions that the contracts of `controller` cite, and its claims.
pub mod Records
pub mod Refusing
pub mod Calls
pub mod Portions
pub mod OutwardReport
pub mod Leaving
pub mod CheckCourse
pub mod EndRequest
pub mod EndRequestBytes
pub mod Demand3
pub mod Openings
pub mod Bench

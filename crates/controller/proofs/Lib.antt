-- The laws that belong to no one function, by subject.
pub mod Refusals
pub mod Openings
pub mod Steps
pub mod Settling
pub mod Keeping
pub mod Leavings
pub mod PortionLeavings
pub mod LawfulRecords
pub mod RunningChecks
pub mod Courses
pub mod EndRequestCall
pub mod EndRequestLines
pub mod StrayBytes
pub mod Endings
pub mod RunMeanings
pub mod Benches

-- The definitions that the contracts of `frames` cite, in the order of 01, "The frame" and "Demand 3's runs". `Scans` is internal.
pub mod Finished
pub mod Reading
pub mod LiveReading
pub mod Buffer
pub mod Series
pub mod PlainRun
pub mod Scans
pub mod Examples

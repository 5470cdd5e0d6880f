-- The laws that belong to no one function.
pub mod PhaseLaws
pub mod PhaseMeanings

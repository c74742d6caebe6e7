-- What is due, number by number; what the promises pin down; soundness decided.
pub mod ByNumber
pub mod Demands
pub mod PlanRefused
pub mod ProgramAsks
pub mod SoundDecided

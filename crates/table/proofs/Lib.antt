pub mod LowestPlace
pub mod Passing
pub mod Positions
pub mod Sets
pub mod SoundShared
pub mod SoundSingle
pub mod SoundSteps

pub mod Beside
pub mod JoinsSound
pub mod SplitsSound

pub mod RaceLaws
pub mod Races

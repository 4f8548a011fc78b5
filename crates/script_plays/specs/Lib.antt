pub mod Choices
pub mod Scenes
pub mod Plays
pub mod Laws
pub mod Reduced

pub mod Looks
pub mod Places
pub mod Shapes
pub mod Legend
pub mod Arrows

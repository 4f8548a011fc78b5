pub mod Runs
pub mod Alike
pub mod Prefixes
pub mod UnderWay
pub mod Unique
pub mod Exact
pub mod Watched
pub mod OneReading

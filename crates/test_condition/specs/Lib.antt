pub mod Acting
pub mod Free

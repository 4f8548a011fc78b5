pub mod Lining
pub mod Named
pub mod Reporting
pub mod Answering

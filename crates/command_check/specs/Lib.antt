pub mod Lines
pub mod VerdictEndings
pub mod Check
pub mod Traces
pub mod Accepted
pub mod OrderLines
pub mod Order

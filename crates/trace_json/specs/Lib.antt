pub mod Spans
pub mod Texts
pub mod Written
pub mod Laws

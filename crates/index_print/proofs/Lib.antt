pub mod Written
mod Plain

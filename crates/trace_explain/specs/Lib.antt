pub mod Rules
pub mod Sentences
pub mod Facts
pub mod Words
pub mod Explained
pub mod Laws

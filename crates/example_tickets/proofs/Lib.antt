pub mod Selling

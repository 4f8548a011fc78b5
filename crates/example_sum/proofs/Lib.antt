mod Closing
mod Counting
mod Steps

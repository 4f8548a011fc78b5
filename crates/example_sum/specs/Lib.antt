pub mod Sums
pub mod SumLaws
pub mod Trees

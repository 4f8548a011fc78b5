pub mod Sales
pub mod SaleLaws

mod Crewing
mod Inside
mod Makers
mod Roles
mod Totals

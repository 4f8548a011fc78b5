pub mod Calls
pub mod RoleLaws
pub mod Roles

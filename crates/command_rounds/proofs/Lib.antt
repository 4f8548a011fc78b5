pub mod Printed
pub mod Between
pub mod Closing
pub mod Noting
pub mod Walked
pub mod Stinted
pub mod Apart
pub mod First

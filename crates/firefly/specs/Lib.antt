pub mod Looks
pub mod IndexRun
pub mod IndexCommand
pub mod TraceCommand
pub mod RunCommand
pub mod SampleCommand
pub mod Top
pub mod Laws

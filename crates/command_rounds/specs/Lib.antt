pub mod RoundsCommand
pub mod Playing
pub mod RoundEvents

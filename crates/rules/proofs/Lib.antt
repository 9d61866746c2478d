mod Numbering
mod Passing
pub mod Sizes
mod Turns
mod Chains
mod SumTurns
mod CondTurns
mod StatementTurns
mod GivenTurns
mod Outcomes
mod Ends

-- What the entries answer, and what a valid state gives to the functions behind them.
pub mod EntryLaws
pub mod Query

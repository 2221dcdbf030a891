pub mod MeaningLemmas
pub mod SignalTables

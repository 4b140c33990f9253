pub mod CoveredEntries

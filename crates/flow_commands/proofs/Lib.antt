pub mod StandingIs
pub mod FirstState
pub mod Unwritten
pub mod OpenedAnswers
pub mod Causes
mod AllFed
pub mod Unchanged
pub mod Endings
mod Lines
mod Jobs
mod FileLines
pub mod HandedOn
mod KeptLines
mod KnownStarts
mod OneEach
mod RollEnds
mod Spans
mod SpanStarts
mod WarningParts

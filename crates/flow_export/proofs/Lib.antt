mod Passed
mod ReadWhole
pub mod HandingOn
mod Choosing
mod Viewed
mod WholeMessages
mod Written
pub mod ReadBack
mod Spanning
mod FindingSpans
mod Between
mod FoundInBoth
mod ViewFiles
mod ChosenText
mod SpanWritten
mod SumsMet
mod Unrolled
mod AskedFor
mod ByTime
mod Cut

mod Adding
pub mod Answered
pub mod FeedGiven
pub mod LastWords
mod OneByOne
pub mod Reading
pub mod Reported
pub mod Told
pub mod CommandWords
pub mod Verdicts
pub mod Walking
mod Checked
mod Ahead

mod Takers
mod Coenrolling
mod Payloads
pub mod Stepping
pub mod Outcomes
pub mod EnrolmentOutcomes
mod FoundValues
mod JoinValues
pub mod FollowedPreferences
mod CountedEvents
mod Outboxes
mod Confirmations
pub mod OptOuts
pub mod EventSteps
pub mod OutboxSteps
pub mod PreferenceSteps
mod ReadFiles
mod ReadRecords
mod ReadContexts
mod KeptRecords
mod LinkedManifests
pub mod Lawfulness
pub mod Soundness
pub mod ServedValues
mod Trees
mod SoundValues
pub mod WrittenManifests
pub mod AskedFiles
mod Asking
mod TakingPart

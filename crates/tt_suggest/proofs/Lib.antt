pub mod LeastLemmas
pub mod TreeLemmas
pub mod BackLemmas
pub mod MovedLemmas
pub mod WaitingLemmas
pub mod FollowLemmas
pub mod FoundLemmas
pub mod AnswerLemmas

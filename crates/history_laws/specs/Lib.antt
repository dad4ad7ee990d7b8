pub mod Texts
pub mod LockGuards
pub mod QuietCalls
pub mod Invariant
pub mod Laws
pub mod EarlyRelease

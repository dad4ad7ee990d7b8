pub mod ProtectedGrants
pub mod ProtectedStates
pub mod ProtectedReplies
pub mod ProtectedCalls
pub mod OwnOperations

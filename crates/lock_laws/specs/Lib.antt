pub mod Protected
pub mod OrderedStates
pub mod OwnOperations

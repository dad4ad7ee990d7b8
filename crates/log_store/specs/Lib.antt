pub mod Answers
pub mod Durable
pub mod Fold
pub mod Growth
pub mod Payload
pub mod Store

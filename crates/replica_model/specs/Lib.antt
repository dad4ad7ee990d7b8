pub mod OpenReplica
pub mod Quorums
pub mod Records
pub mod Steps

pub mod Queues
pub mod SeenBy

pub mod Contents
pub mod Order
pub mod Machine
pub mod AnswerLines
pub mod Clients
pub mod Transitions
pub mod Legal

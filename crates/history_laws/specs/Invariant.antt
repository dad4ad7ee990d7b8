-- What only the proofs carry from event to event.
pub mod Numbering

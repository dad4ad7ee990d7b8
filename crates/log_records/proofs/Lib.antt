pub mod Steps
pub mod Appending
pub mod FieldCodec
pub mod OpCodec
pub mod LogicalCodec
pub mod PhysicalCodec
pub mod Decoding

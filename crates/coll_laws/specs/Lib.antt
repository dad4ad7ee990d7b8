pub mod Rising
pub mod Effects

pub mod BootLines
pub mod Boot
pub mod Readable
pub mod RebootLines
pub mod Reboot

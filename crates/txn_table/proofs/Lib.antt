pub mod Order
pub mod Places
pub mod Sorting
pub mod Records
pub mod Logs
pub mod Writes
pub mod LogGrowth
pub mod HeldOrders

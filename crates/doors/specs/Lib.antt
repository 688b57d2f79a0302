pub mod Visits
pub mod MemoryDoor
pub mod MemoryListener
pub mod Sockets

pub mod Callings
pub mod PacketCalls
pub mod Reading
pub mod Statuses
pub mod Planned
pub mod Piles
pub mod Edges

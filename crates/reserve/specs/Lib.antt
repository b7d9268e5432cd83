pub mod Reclaiming
pub mod Rooms
pub mod RuleTable
pub mod Rules

pub mod HandleFacts
pub mod HandlesSound
pub mod Reclaims
pub mod RoomFacts
pub mod RoomOthers
pub mod RoomsSound

pub mod BytesMut
pub mod Opening
pub mod Reclaims

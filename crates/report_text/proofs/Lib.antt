pub mod DecimalLaws
pub mod BlockLaws
pub mod RoomLaws
pub mod TextLaws

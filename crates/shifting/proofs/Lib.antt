-- The lemmas of this room.
pub mod SiteMoves
pub mod ShiftLaws

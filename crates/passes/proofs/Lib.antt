pub mod TableLaws
pub mod PassIsLegal
pub mod PassIsExact
pub mod TurnLaws
pub mod PassLength
pub mod PassStaysBelow
pub mod DoorLaws
pub mod PassCalls

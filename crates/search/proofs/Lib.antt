pub mod SearchDoorLaws
pub mod WholeSearch
pub mod SearchIsRight
pub mod RecordLeft

pub mod FaultLaws
pub mod HeaderLaws
pub mod CheckIsTheRules
pub mod PlaceIsFirst
pub mod AcceptedIsTrue
pub mod RecordLaws

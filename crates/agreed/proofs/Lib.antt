pub mod RecordsExist
pub mod WrittenRecords
pub mod FiledRecords
pub mod EachHasRecord
pub mod PricesAgree

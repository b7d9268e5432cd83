pub mod Amounts
pub mod Grammar
pub mod Records

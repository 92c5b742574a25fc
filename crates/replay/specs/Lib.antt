-- What the contracts of the program cite.
pub mod Bytes
pub mod ClassDue
pub mod ClassMet
pub mod Due
pub mod Met
pub mod ReportDue
pub mod ReportMet

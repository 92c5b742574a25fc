-- when a log is whole: 16, clause by clause
pub mod Whole
-- its records
pub mod Records
-- a record by its parts
pub mod Good
-- what a reader answers, and what it leaves
pub mod Reply
-- logs, whole and not, computed
pub mod Examples

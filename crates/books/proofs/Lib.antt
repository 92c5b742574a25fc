-- a book and its strings, by what code reads of them
pub mod Books
-- parts of a log: `PartsIn`, `part_lent`
pub mod Parts

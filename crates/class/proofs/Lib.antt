-- the log in parts and the areas, answer by answer: `parts_next`, `area_next`
pub mod Logging
-- one script: `turned`
pub mod Lending
-- the loop over the scripts: `going_first`, `GoingNext`, `going_last`
pub mod Going
-- a whole call: `class_refused`, `class_no_book`, `class_answered`
pub mod Calls
-- each script as alone: `answers_alone`, `part_alone`, `behind_stays`, `told_alone`
pub mod Theorems

-- the two figures, and what asking for them answers
pub mod Figures
-- what the first says of each gate, and when it can be given: `AddsUp`
pub mod Adding
-- what is promised of them: no run exceeds either
pub mod Within
-- small circuits and their figures, computed
pub mod Examples

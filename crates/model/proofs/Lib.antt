-- the theorems, as statements
pub mod Rounds
-- choices, lists, counting
pub mod Lists
-- ranges, and what question 1 says of the sizes: `sizes`
pub mod Sizes
-- a list that has each of its members once
pub mod Once
-- each gate's inputs and outputs stand in a row: `laid`, `filled`
pub mod Laid
-- a call that is not refused: `accepted`
pub mod Asked
-- what holds of each length and stimulus of a script holds of all that it gives: `script_all`
pub mod Scripts
-- question 6 and an order of the pure gates: `ordered`, `order_suffices`
pub mod Placing
-- the sizes of the wires, and what keeps them
pub mod Sized
-- what one check does, by kind
pub mod Checks
-- what small changes keep, a chain keeps, with all that its Loops run; and what steps of each kind keep, a step
pub mod Running
-- and settling and the opening of a tick
pub mod Walks
-- every operation on the state keeps its sizes
pub mod Kept
-- Loops: each has its entry, calls stay in their body, and they nest no deeper than there are gates
pub mod Nesting
-- so does every world of a run: `run_sized`
pub mod Worlds
-- the tests of room are never met: `few_roomy`
pub mod Roomy
-- marking has rounds enough
pub mod Marking
-- refreshing has depth enough
pub mod Refreshing
-- settling has rounds enough, and ends: `settled`
pub mod Settling
-- a run of calls has rounds enough, and a chain without a stop has made all its calls
pub mod Chains
-- no body is too deep: `none_too_deep`
pub mod Deep
-- refreshing in any order is the same: `stale_is_dirty`
pub mod Stale
-- the words of a record are read back as that record: `parts_back`
pub mod ReadBack
-- the order promise at this machine: `in_order`
pub mod InOrder
-- what may be put off: `put_off_rightly`
pub mod PutOff
-- which numbers an answer can have: `numbers`
pub mod Ends
-- the records of a run fit its log: `play_fits`, `log_keeps_length`
pub mod Fits
-- the count of a record never comes to its cap: `CountsAll`
pub mod Counted
-- What a unit sees when it begins. What holds of the wiring of a circuit that is not refused
pub mod Wired
-- no NaN comes of what is none
pub mod Reals
-- what holds of all that gates have under way
pub mod Underway
-- a pure gate that is not stale shows what it gives, an input with a stale source waits: kept by the functions of the wires
pub mod Right
-- and with it the rest of what holds of the wires
pub mod Fine
-- and of the states
pub mod Sound
-- a step and a chain keep them sound
pub mod Stepping
-- so do publishing and settling
pub mod Calming
-- so do the start and the opening of a tick
pub mod Starting
-- in a sound state, what is read is what is worked out afresh
pub mod Afresh
-- every unit begins in a sound state
pub mod Beginning
-- a circuit that is not refused is wired so, and what a script gives: `wired`, `gets_fine`
pub mod Wiring
-- the theorems: `begins_fresh`, `each_unit`, `afresh_is`
pub mod Fresh
-- Reading for the record. Marking is the same where gates that tell nothing more are stale besides
pub mod Silent
-- wires in which no gate is stale
pub mod Rested
-- wires that differ only in which pure gates are stale and what these show, in the opening of a tick
pub mod Twins
-- states with such wires open a tick alike
pub mod Openings
-- the theorems: `reading_unseen`, `unread_fresh`
pub mod Unread
-- an input that waits until its first check
pub mod Visiting
-- the start is noticed in tick 1: `noticed`, `as_change`, `begins_first`
pub mod Noticing
-- a class: `leaves_refused`
pub mod Classes

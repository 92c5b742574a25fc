-- a run, tick by tick: `running_first`, `running_on`, `running_stop`, `running_end`
pub mod Turns
-- what a script gives to each tick: `script_next`, `used_fits`
pub mod Scripts
-- what is known of a call that is not refused: `few_calls`, `good_script`, `large`
pub mod Fewer
-- the log's bytes after a run: `logged_bytes`
pub mod Bytes
-- the number of the tick: `tick_by_one`, `start_at_zero`
pub mod Counting
-- an area made zero: `zero_as`
pub mod Zeros
-- the turns of the loop that plays a script: `playing_first`, `playing_on`, `playing_stop`, `playing_end`
pub mod Playing
-- a whole call: `call_refused`, `call_played`
pub mod Calls

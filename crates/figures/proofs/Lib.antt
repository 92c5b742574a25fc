-- the rounds
pub mod Rounds
-- gates that can be numbered so that each call goes down are all placed: `down_placed`
pub mod Falling
-- the steps of a gate of a circuit: `gate_steps`; `adds_up`
pub mod Gates
-- a chain makes no more steps than its calls weigh, where each gate weighs more than what it passes on to
pub mod Weighing
-- a unit starts at an E or an exec output
pub mod Starts
-- no unit causes more steps than the figure
pub mod Units
-- so of every unit of a run: `run_steps`
pub mod Runs
-- the bytes of its log: `run_bytes`
pub mod Logs
-- no run exceeds either figure: `no_run_exceeds`
pub mod Theorems

-- what a look-up in the links gives
pub mod Reading
-- reading back what was written down
pub mod Tables
-- a word of gates, gate by gate
pub mod Walking
-- the links of a circuit show that circuit: `net_cells`
pub mod Net

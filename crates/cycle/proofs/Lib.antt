-- Cycle's step: the remainder's laws, `cycle_below`, and one law for each way through the code.
pub mod Laws

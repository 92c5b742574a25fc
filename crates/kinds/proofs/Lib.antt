-- what a match on the kind shows: `keyed`, `ranged`, `last`; what holds of every kind: `everywhere`, `few_inputs`, `few_outputs`
pub mod Laws

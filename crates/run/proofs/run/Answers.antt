use Rattle.std.proofs.Common.{ℕ, List}
use mathlib.Core.Path.{sym}
use Rattle.circuit.proofs.Numbers.{not_zero, handed_number}
use Rattle.run.proofs.Calls.{circuit_refused}
use Rattle.run.specs.Call.{Call}
use Rattle.circuit.proofs.Theorems.{links_are_circuit}
use borrow.Author.Rules.{rules}
use Rattle.run.proofs.run.Goals as goal

-- the bytes that it is lent
abbrev call : List ℕ → List ℕ → List ℕ → List ℕ → List ℕ → List ℕ → Call
call circuit script log values units delays =
    record { circuit = circuit; script = script; log = log; values = values; units = units; delays = delays }

pub returns-in_err-refusal_lent : goal.returns-in_err-refusal_lent
returns-in_err-refusal_lent c = let k = c.in_err-refusal_lent.ensures in rw (handed_number _ _ c.from_residual.ensures.1) (circuit_refused (call c.args.circuit.now c.args.script.now c.args.log.now c.args.values.now c.args.units.now c.args.delays.now) _ k.0 (not_zero _))

pub script_answer-requires : goal.script_answer-requires
script_answer-requires c = let k = c.in_ok-refusal_lent.ensures in let z = sym k.0 in (links_are_circuit _ _ _ _ z k.1, z)

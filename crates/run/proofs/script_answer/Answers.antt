use Rattle.std.proofs.Common.{ℕ, List}
use mathlib.Core.Path.{refl, sym}
use Rattle.circuit.proofs.Numbers.{not_zero, handed_number}
use Rattle.run.proofs.Calls.{script_refused, few_called, fitting, large_values, large_units, large_delays, call_played}
use Rattle.run.specs.Call.{Call}
use Rattle.circuit.proofs.Order.{sizes_good}
use borrow.Author.Rules.{rules}
use Rattle.run.proofs.script_answer.Goals as goal

-- the bytes that it is lent
abbrev call : List ℕ → List ℕ → List ℕ → List ℕ → List ℕ → List ℕ → Call
call circuit script log values units delays =
    record { circuit = circuit; script = script; log = log; values = values; units = units; delays = delays }

pub script_refusal-requires : goal.script_refusal-requires
script_refusal-requires c = sizes_good _ _ 0 (sym c.requires.1) refl

pub returns-in_err-script_refusal : goal.returns-in_err-script_refusal
returns-in_err-script_refusal c = rw (handed_number _ _ c.from_residual.ensures.1) (script_refused (call c.args.circuit.now c.args.script.now c.args.log.now c.args.values.now c.args.units.now c.args.delays.now) c.requires.1 _ c.in_err-script_refusal.ensures (not_zero _))

pub perform-played-requires : goal.perform-played-requires
perform-played-requires c =
    let k = call c.args.circuit.now c.args.script.now c.args.log.now c.args.values.now c.args.units.now c.args.delays.now in let g = c.requires.1 in let e = c.in_ok-script_refusal.ensures in let s = c.requires.0 in
    record { linked = (large_values k g _ e refl _ s, large_units k g _ e refl _ s, large_delays k g _ e refl _ s); few_calls = (few_called k g _ e refl _ s, fitting k g _ e refl _ s) }

pub returns : goal.returns
returns c = call_played (call c.args.circuit.now c.args.script.now c.args.log.now c.args.values.now c.args.units.now c.args.delays.now) c.requires.1 _ c.in_ok-script_refusal.ensures refl _ c.requires.0 (record { log = _; values = _; units = _; delays = _ }) _ _ _ (λ i. (c.slice_known-1.given i).fits) (λ i. (c.slice_known-5-1.given i).fits) c.perform-played.ensures.logs c.perform-played.ensures.size_in_bounds c.perform-played.ensures.zeroed.0 c.perform-played.ensures.zeroed.1 c.perform-played.ensures.zeroed.2

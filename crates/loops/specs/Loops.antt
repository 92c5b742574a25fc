-- What the code's Loops make of the areas.
use Rattle.std.specs.Prelude.{ℕ, ◌≡◌, Bool, not, false, ◌&&◌, eqb, pos}
use Rattle.words.specs.Words.{signed}
use Rattle.model.specs.Value.{as_int}
use Rattle.model.specs.Circuit.{Circuit, input}
use Rattle.model.specs.State.{Wires}
use Rattle.model.specs.Wires.{look}
use Rattle.model.specs.Delays.{nat}
use Rattle.model.specs.Exec.{readied}
use Rattle.model.specs.Chain.{no_calls, Chained, chained}
use Rattle.model.specs.Loops as model
use Rattle.model.specs.Loops.{break_set, run_body, loop_on, loop_over}
use Rattle.areas.specs.Areas.{Contents, with_state, with_calls}
use Rattle.chain.specs.declared.Ran.{Ran}
use Rattle.chain.specs.Chain.{Runs}
use Rattle.loops.specs.declared.counting.Counts.{Counts}
use Rattle.loops.specs.declared.counting.Looped.{Looped}

-- a run that goes on from what the areas hold, or has stopped
abbrev pub going_on : Contents → Ran → Chained
going_on a r = chained a.state r.left r.stop a.calls

-- whether a Loop goes on after a run of its body that came to this stop
abbrev pub stays_on : ℕ → Wires → Bool
stays_on stop w = eqb stop 0 && not w.breaking

-- the runs of Loop g's body that are still to come, by the words of the first index and the step, where bodies nest so deep at the most
abbrev pub looping : Circuit → ℕ → ℕ → ℕ → ℕ → ℕ → ℕ → Chained → model.Looped
looping c nesting g first step more done r = loop_on c (run_body c nesting) g (signed first) (signed step) more done r

-- what Loop g is to count, as its inputs read, and whether a Break was asked for before it
pub record CountsRead (c : Circuit) (g : ℕ) (w : Wires) (asked : Bool) (r : Counts) : Type 0 where
  pub count : r.count ≡ nat (as_int (pos 0) (look c w (input c g 1)))
  pub first : signed r.first ≡ as_int (pos 0) (look c w (input c g 2))
  pub step : signed r.step ≡ as_int (pos 1) (look c w (input c g 3))
  pub broke : r.broke ≡ asked

-- ---- the areas a became b

-- by a Loop's runs l, with the answer r
pub record LoopsAs (a b : Contents) (r : Looped) (l : model.Looped) : Type 0 where
  pub runs : Runs a b (record { left = r.left; stop = r.stop }) l.after
  pub done : r.done ≡ l.done
  pub aborted : r.aborted ≡ l.aborted

-- when the Loop of gate g began, with what it is to count
abbrev pub BeginsLoop : Circuit → ℕ → Contents → Contents → Counts → Type 0
BeginsLoop c g a b r = let s = readied c a.state g 1 3 in (b ≡ with_state a (break_set false s)) × CountsRead c g s.wires s.wires.breaking r

-- when its runs were over, which had come to l, with the answer r
abbrev pub EndsLoop : Circuit → ℕ → Bool → Looped → Contents → Contents → Ran → Type 0
EndsLoop c g broke l a b r =
    let k = loop_over c broke g (model.looped (chained a.state l.left l.stop no_calls) l.done l.aborted) in
    (b ≡ with_state a k.state) × (r ≡ record { left = k.left; stop = k.stop })

-- What the code's step answers, and what it makes of the areas.
use Rattle.std.specs.Prelude.{ℕ, ◌≡◌, true, false, Option, Result, Ok, Err}
use Rattle.std.proofs.Math.Option.{none}
use Rattle.model.specs.Circuit.{Circuit, kind_of_gate, gate_at_input}
use Rattle.model.specs.State.{State}
use Rattle.model.specs.Exec.{Stepped}
use Rattle.areas.specs.Areas.{Contents, with_state}
use Rattle.words.specs.Options.{option_of}
use Rattle.lists.specs.declared.Full.{Full}

-- input i is entered, which gate g has, of kind k
pub record Entered (c : Circuit) (i g k : ℕ) : Type 0 where
  pub gate : g ≡ gate_at_input c i
  pub kind : k ≡ kind_of_gate c g

-- what the code answers: the output to fire next, or none; or that a list was full
abbrev pub Step : Type 0
Step = Result (Option ℕ) Full

-- a state and an answer, as the definition has them
unfoldable pub stepped : State → Step → Stepped
stepped s (Ok next) = record { state = s; next = option_of next; full = false }
stepped s (Err e) = record { state = s; next = none; full = true }

-- the areas a became b, with the answer r, as the definition's step d
pub record Makes (a b : Contents) (r : Step) (d : Stepped) : Type 0 where
  pub state : b ≡ with_state a d.state
  pub answer : stepped d.state r ≡ d

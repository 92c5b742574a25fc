-- Question 19 in parts, as it is asked: of a call, and of a gate.
use Rattle.std.specs.Prelude.{ℕ, Bool, ◌&&◌, eqb, length}
use Rattle.model.specs.Circuit.{Call, Circuit, body_of_gate, gate_at_input, gate_at_output}
use Rattle.model.specs.Questions.{in_a_body, has_entry, comes_out}

-- a call of output o goes to a gate in the same body
abbrev pub stays_inside : Circuit → ℕ → Call → Bool
stays_inside c o k = eqb (body_of_gate c (gate_at_output c o)) (body_of_gate c (gate_at_input c k.to))

-- gate g lies in a body that there is, has its entry if it is a Loop, and lies in no ring of bodies
abbrev pub well_placed : Circuit → ℕ → Bool
well_placed c g = in_a_body c g && has_entry c g && comes_out c (length c.kinds) (body_of_gate c g)

-- The steps by which the code makes the wires at the start of a run; together they come to the definition's `wires_at_start`.
use Rattle.std.specs.Prelude.{ℕ, false, [], length, replicate, ◌==◌}
use Rattle.std.proofs.Math.Option.{none}
use Rattle.model.specs.declared.Value.TheVariants.{Nothing}
use Rattle.model.specs.Base.{if◌then◌otherwise◌}
use Rattle.model.specs.Kinds.{Var, pure}
use Rattle.model.specs.Circuit.{Circuit, kind_of_gate, output, setting, watching}
use Rattle.model.specs.State.{Wires}
use Rattle.model.specs.Wires.{show, soil, watch}

-- nothing shown, stale, waiting or remembered
unfoldable pub blank : Circuit → Wires
blank c =
    record {
      tick = 0;
      dt = 0;
      uptime = 0;
      outs = replicate (length c.outputs) Nothing;
      dirty = replicate (length c.kinds) false;
      to_check = [];
      queued = replicate (length c.pins) false;
      late_checks = replicate (length c.pins) false;
      last = replicate (length c.pins) none;
      pulses = replicate (length c.outputs) 0;
      written = [];
      written_outside = replicate (length c.kinds) false;
      unions_passed = replicate (length c.kinds) false;
      breaking = false;
      runs_left = 0;
    }

module _ (c : Circuit) where
  -- a pure gate is stale, a Var shows its initial
  unfoldable pub prepared : Wires → ℕ → Wires
  prepared w g =
      if pure (kind_of_gate c g) then soil w g
      otherwise if kind_of_gate c g == Var then show w (output c g 0) (setting c g 0)
      otherwise w

  -- a watched input waits for its first check
  unfoldable pub awaited : Wires → ℕ → Wires
  awaited w i = if watching c i then watch w i otherwise w

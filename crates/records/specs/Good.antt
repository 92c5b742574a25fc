-- A record by its parts: what the test of a log asks of its words.
use Rattle.std.specs.Prelude.{ℕ, suc, ◌^◌, ◌≤◌, ◌<◌, ◌≡◌, Bool, true, false, List, [], ◌∷◌, ◌++◌, eqb, length}
use Rattle.schedule.specs.Schedule.{most_units, most_waiting}
use Rattle.model.specs.declared.Value.{Value}
use Rattle.model.specs.Base.{if◌then◌otherwise◌, all, both}
use Rattle.model.specs.Value.{kind_of, content_of}
use Rattle.model.specs.Kinds.{Out}
use Rattle.model.specs.Circuit.{Circuit}
use Rattle.model.specs.Record.{LogRecord}
use Rattle.model.specs.Questions.{yes_all}
use Rattle.records.specs.Whole.{good_steps, good_stop, good_unit, good_output}

-- each output shows a value that it may show
unfoldable pub good_values : List Out → List Value → Bool
good_values os vs = yes_all (both (λ o v. good_output o (kind_of v) (content_of v)) os vs)

-- a record of tick t, the last one or not
pub record Good (c : Circuit) (t : ℕ) (last : Bool) (r : LogRecord) : Type 0 where
  pub tick : r.tick ≡ t
  pub steps : good_steps r.steps r.stop ≡ true
  pub begun : length (r.late ++ r.main) ≤ most_units
  pub carried : length r.carried ≤ most_waiting
  pub stop : good_stop r.stop last ≡ true
  pub changed : r.changed < 2 ^ 63
  pub units_begun : all (good_unit c) (r.late ++ r.main) ≡ true
  pub units_carried : all (good_unit c) r.carried ≡ true
  pub shows : length r.outs ≡ (if eqb r.stop 0 then length c.outputs otherwise 0)
  pub outputs : good_values c.outputs r.outs ≡ true

-- whether nothing follows
abbrev pub nothing_follows : {A : Type 0} → List A → Bool
nothing_follows [] = true
nothing_follows (x ∷ xs) = false

-- records of ticks t, t + 1, ..
abbrev pub GoodLog : Circuit → ℕ → List LogRecord → Type 0
GoodLog c t [] = Unit {0}
GoodLog c t (r ∷ rs) = Good c t (nothing_follows rs) r × GoodLog c (suc t) rs

-- One call made: one law for each way out of a function.
use Prim.Native.Nat.{ℕ}
use mathlib.Core.Path.{◌≡◌, refl, sym, ap, ◌∙◌, subst}
use mathlib.Core.Bool.{Bool, true, false, not, ◌&&◌, and-true, and-false}
use mathlib.Core.Option.{Option, none, some}
use native.Mathlib.Omega.{arith}
use Rattle.std.specs.Prelude.{Option as Found, Some, None, Ok}
use Rattle.lists.specs.Lists.{Filed, NoRoom, Done}
use Rattle.schedule.specs.Schedule.{list_full}
use Rattle.model.specs.Base.{if◌then◌otherwise◌}
use Rattle.model.specs.Circuit.{Circuit}
use Rattle.model.specs.Exec.{Stepped, exec_gate}
use Rattle.model.specs.Chain.{no_calls, fit, Chained, chained, push_calls, fire_output, make_call}
use Rattle.units.specs.View.{Units}
use Rattle.wires.specs.View.{Values}
use Rattle.states.specs.View.{Delays}
use Rattle.areas.specs.Areas.{Contents, together, with_calls}
use Rattle.steps.specs.Steps.{stepped, Makes, Step}
use Rattle.steps.proofs.Making.{Fires, Ends, Stops}
use Rattle.chain.specs.declared.Ran.{Ran}
use Rattle.chain.specs.Chain.{Pushes, Runs, started}
use Rattle.chain.proofs.Fits.{was_done, was_full}
use Rattle.chain.proofs.Runs.{runs_from}

-- ---- an output fired

module _ (c : Circuit) (o left : ℕ) (vs : Values) (ds : Delays) (u v : Units) (f : Filed) (p : Pushes u v f (push_calls c (some o) u.calls)) where
  -- by whether the calls fit
  fired : (b : Bool) → fit (push_calls c (some o) u.calls) ≡ b → (n : ℕ) → n ≡ (if b then 0 otherwise list_full) →
      Runs (together vs u ds) (together vs v ds) (record { left = left; stop = n }) (fire_output c o (started (together vs u ds) left))
  unfolding fire_output chained if◌then◌otherwise◌
  fired b e n h =
      record {
        state = ap (λ (x : Units). together vs x ds) p.others;
        calls = go b e;
        left = refl;
        stop = h ∙ ap (λ (x : Bool). if x then 0 otherwise list_full) (sym e);
      }
    where
      go : (b : Bool) → fit (push_calls c (some o) u.calls) ≡ b → (if fit (push_calls c (some o) u.calls) then 0 otherwise list_full) ≡ 0 → v.calls ≡ push_calls c (some o) u.calls
      go true e z = p.calls e
      go false e z = let w : ◌≡◌ {A = ℕ} 12 0 = sym (ap (λ (x : Bool). if x then 0 otherwise list_full) e) ∙ z in absurd (omega (arith, w))

  pub output_fired : f ≡ Done → Runs (together vs u ds) (together vs v ds) (record { left = left; stop = 0 }) (fire_output c o (started (together vs u ds) left))
  unfolding if◌then◌otherwise◌
  output_fired h = fired true (was_done _ (sym h ∙ p.answer)) 0 refl

  pub output_full : f ≡ NoRoom → Runs (together vs u ds) (together vs v ds) (record { left = left; stop = 12 }) (fire_output c o (started (together vs u ds) left))
  unfolding if◌then◌otherwise◌
  output_full h = fired false (was_full _ (sym h ∙ p.answer)) 12 refl

-- ---- a step made, and what it fires called

module _ (c : Circuit) (inside : Bool) (i left : ℕ) (a b : Contents) (step : Step) (e : Makes a b step (exec_gate c inside a.state i)) where
  abbrev d : Stepped
  d = exec_gate c inside a.state i

  abbrev made : Chained
  made = make_call c inside i (started a left)

  next_is : (x : Option ℕ) (f : Bool) → stepped d.state step ≡ record { state = d.state; next = x; full = f } → (d.next ≡ x) × (d.full ≡ f)
  next_is x f h = (ap (λ (y : Stepped). y.next) (sym e.answer ∙ h), ap (λ (y : Stepped). y.full) (sym e.answer ∙ h))

  same_lists : b.lists ≡ a.lists
  same_lists = ap (λ (x : Contents). x.lists) e.state

  same_kept : b.kept ≡ a.kept
  same_kept = ap (λ (x : Contents). x.kept) e.state

  -- what it comes to, by the output that it fires and whether a list was full
  abbrev after : Option ℕ → Bool → Chained
  after x f = chained d.state left (if fit (push_calls c x a.calls) && not f then 0 otherwise list_full) (push_calls c x a.calls)

  made_is : (x : Option ℕ) (f : Bool) → stepped d.state step ≡ record { state = d.state; next = x; full = f } → made ≡ after x f
  unfolding make_call chained
  made_is x f h = let n = next_is x f h in (λ j. after (n.0 j) (n.1 j))

  pub call_fires : (x : Found ℕ) (o : ℕ) → step ≡ Ok x → x ≡ Some o → (v : Contents) (r : Ran) → Runs b v r (fire_output c o (started b left)) → Runs a v r made
  unfolding stepped fire_output chained if◌then◌otherwise◌
  call_fires x o hx ho v r p =
      let h : step ≡ Fires o = subst (λ (y : Found ℕ). step ≡ Ok y) ho hx in
      let k : fire_output c o (started b left) ≡ after (some o) false =
      (λ j. fire_output c o (started (e.state j) left)) ∙ ap (λ (x : Bool). chained d.state left (if x then 0 otherwise list_full) (push_calls c (some o) a.calls)) (sym (and-true (fit (push_calls c (some o) a.calls)))) in
      subst (Runs a v r) (k ∙ sym (made_is (some o) false (ap (stepped d.state) h))) (runs_from same_lists same_kept p)

  -- it fires nothing, and the calls fit as they did
  pub call_ends : fit a.calls ≡ true → (x : Found ℕ) → step ≡ Ok x → x ≡ None → Runs a b (record { left = left; stop = 0 }) made
  unfolding stepped push_calls chained if◌then◌otherwise◌
  call_ends f x hx hn =
      let h : step ≡ Ends = subst (λ (y : Found ℕ). step ≡ Ok y) hn hx in
      subst (Runs a b (record { left = left; stop = 0 })) (sym (made_is none false (ap (stepped d.state) h)))
      record {
        state = ap (λ (x : Contents). with_calls x no_calls) e.state;
        calls = λ _. ap (λ (x : Contents). x.calls) e.state;
        left = refl;
        stop = ap (λ (x : Bool). if x then 0 otherwise list_full) (sym (and-true (fit a.calls) ∙ f));
      }

  -- a list was full
  pub call_full : step ≡ Stops → Runs a b (record { left = left; stop = 12 }) made
  unfolding stepped chained if◌then◌otherwise◌
  call_full h =
      let z : (fit (push_calls c none a.calls) && not true) ≡ false = and-false (fit (push_calls c none a.calls)) in
      let s : (if fit (push_calls c none a.calls) && not true then 0 otherwise list_full) ≡ 12 = ap (λ (x : Bool). if x then 0 otherwise list_full) z in
      subst (Runs a b (record { left = left; stop = 12 })) (sym (made_is none true (ap (stepped d.state) h)))
      record {
        state = ap (λ (x : Contents). with_calls x no_calls) e.state;
        calls = λ n. absurd (omega (arith, n, s));
        left = refl;
        stop = sym s;
      }

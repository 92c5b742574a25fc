-- The record that a tick writes is good, as it is read back from its bytes.
use mathlib.Core.Path.{◌≡◌, refl, sym, ap, ◌∙◌}
use mathlib.Core.Logic.{◌⊎◌, inl, inr}
use mathlib.Core.Bool.{Bool, true, false, ◌&&◌, ◌||◌, true≢false}
use mathlib.Core.List.{List, [], ◌∷◌, ◌++◌, map}
use Prim.Native.Nat.{ℕ, suc, ◌+◌, ◌-◌, ◌^◌, ◌≤◌, ◌<◌}
use native.Mathlib.Nat.{mod-eq_of_lt}
use native.Mathlib.Omega.{arith}
use lib.Dec.{leb, ltb, eqb}
use lib.ListN.{length, get_or, length-map, length-append}
use borrow.Author.Tests.{eqb-true, eq-eqb, ne_eqb, le-ltb, leb-true, leb-false, ltb-true}
use Rattle.schedule.specs.Schedule.{list_full, most_units, most_waiting, Outcome}
use Rattle.schedule.specs.Promise.{All, [·], ◌∷·◌}
use Rattle.schedule.proofs.Erase.{map_append}
use Rattle.schedule.proofs.Members.{all_append}
use Rattle.model.specs.declared.Value.{Value}
use Rattle.model.specs.declared.Value.TheVariants.{Nothing}
use Rattle.model.specs.Base.{if◌then◌otherwise◌, all, both}
use Rattle.model.specs.Value.{kind_of, content_of}
use Rattle.model.specs.Kinds.{Out, fires}
use Rattle.model.specs.Circuit.{Circuit, most_gates}
use Rattle.model.specs.State.{State, Act}
use Rattle.model.specs.Chain.{runaway}
use Rattle.model.specs.Unit.{World}
use Rattle.model.specs.Record.{Listed, LogRecord, head, gates_and_forms, kinds_and_contents, record_words}
use Rattle.model.specs.Closing.{steps, outputs_shown, as_listed, log_record}
use Rattle.model.specs.Run.{most_steps}
use Rattle.model.specs.Questions.{yes_all}
use Rattle.model.proofs.Lists.{if_both, both_true}
use Rattle.records.specs.Whole.{can_have, good_unit, good_output, good_steps, good_stop}
use Rattle.records.specs.Good.{good_values, Good}
use Rattle.promises.proofs.Values.{Proper, as_word, in_words, kind_in_words, content_in_words, at_proper, at_good}
use Rattle.promises.proofs.Wires.{Tells}
use Rattle.promises.proofs.States.{Holds}
use Rattle.promises.proofs.Settles.{Fitting}

-- a record with its outputs as they are read back
abbrev pub read_back : LogRecord → LogRecord
read_back r =
    record { tick = r.tick; steps = r.steps; late = r.late; main = r.main; carried = r.carried; stop = r.stop; changed = r.changed; outs = map in_words r.outs }

-- the stops of a tick whose record is written
abbrev pub Stop : ℕ → Type 0
Stop s = (s ≡ 0) ⊎ ((s ≡ runaway) ⊎ (s ≡ list_full))

-- ---- clauses

-- `limit - left` steps, and one more with stop 11
good_steps_made : (limit left stop : ℕ) → limit ≤ most_steps → good_steps (limit - left + (if eqb stop runaway then 1 otherwise 0)) stop ≡ true
unfolding good_steps if◌then◌otherwise◌
good_steps_made limit left stop l = go (eqb stop runaway)
  where
    most : (n : ℕ) (x : Bool) → n ≤ most_steps + (if x then 1 otherwise 0) → (leb n most_steps || (eqb n (suc most_steps) && x)) ≡ true
    most n x h = by (leb n most_steps) refl x h
      where
        by : (b : Bool) → leb n most_steps ≡ b → (x : Bool) → n ≤ most_steps + (if x then 1 otherwise 0) → (b || (eqb n (suc most_steps) && x)) ≡ true
        by true e x h = refl
        by false e true h = rw (eq-eqb n (suc most_steps) (omega (arith, h, leb-false n most_steps e)))
        by false e false h = absurd (omega (arith, h, leb-false n most_steps e))

    go : (x : Bool) → (leb (limit - left + (if x then 1 otherwise 0)) most_steps || (eqb (limit - left + (if x then 1 otherwise 0)) (suc most_steps) && x)) ≡ true
    go true = most (limit - left + 1) true (omega (arith, l))
    go false = most (limit - left + 0) false (omega (arith, l))

good_stop_made : (stop : ℕ) (last : Bool) → Stop stop → (stop ≡ 0) ⊎ (last ≡ true) → good_stop stop last ≡ true
unfolding good_stop
good_stop_made stop last h (inl e) = rw e refl
good_stop_made stop last (inl e) (inr l) = rw e refl
good_stop_made stop last (inr (inl e)) (inr l) = rw (e, l) refl
good_stop_made stop last (inr (inr e)) (inr l) = rw (e, l) refl

-- a gate of the circuit, and a form that it can have
unit_parts : (c : Circuit) (u : Listed) → good_unit c u ≡ true → (ltb u.gate (length c.kinds) ≡ true) × (can_have c u.gate u.form ≡ true)
unfolding good_unit
unit_parts c u h = both_true (ltb u.gate (length c.kinds)) _ h

units_good : (c : Circuit) {us : List Act} → All (Fitting c) us → all (good_unit c) (map as_listed us) ≡ true
unfolding all
units_good c [·] = refl
units_good c (◌∷·◌ f a) = rw (f.unit, units_good c a)

values_good :
    (os : List Out) (vs : List Value) → ((o : ℕ) → good_output (get_or os o fires) (kind_of (in_words (get_or vs o Nothing))) (content_of (in_words (get_or vs o Nothing))) ≡ true) →
    good_values os (map in_words vs) ≡ true
unfolding good_values yes_all both all
values_good [] [] k = refl
values_good [] (v ∷ vs) k = refl
values_good (o ∷ os) [] k = refl
values_good (o ∷ os) (v ∷ vs) k = rw (k 0, values_good os vs (λ n. k (suc n)))

-- ---- the record

module _ (c : Circuit) where
  -- what the record of tick t is made of, by the world after it
  pub record Makes (t limit : ℕ) (w : World) (o : Outcome Act) : Type 0 where
    pub tick : w.state.wires.tick ≡ t
    pub allowed : limit ≤ most_steps
    pub late : All (Fitting c) o.late
    pub main : All (Fitting c) o.main
    pub carried : All (Fitting c) o.carried
    pub units : length o.late + length o.main ≤ most_units
    pub waits : length o.carried ≤ most_waiting
    pub changed : w.state.changed < 2 ^ 63
    pub stop : Stop o.stop
    pub holds : o.stop ≡ 0 → Holds c w.state

  -- what is said of the outputs vs of a record, which shows n of them
  record Shows (n : ℕ) (vs : List Value) : Type 0 where
    count : length (map in_words vs) ≡ n
    good : good_values c.outputs (map in_words vs) ≡ true
    proper : All Proper vs

  each_proper : (vs : List Value) → ((o : ℕ) → Proper (get_or vs o Nothing)) → All Proper vs
  each_proper [] k = [·]
  each_proper (v ∷ vs) k = ◌∷·◌ (k 0) (each_proper vs (λ n. k (suc n)))

  shown : (s : State) (stop : ℕ) → (stop ≡ 0 → Holds c s) → Shows (if eqb stop 0 then length c.outputs otherwise 0) (outputs_shown s stop)
  unfolding outputs_shown if◌then◌otherwise◌ good_output kind_of content_of
  shown s stop h = go (eqb stop 0) (λ e. (h (eqb-true stop 0 e)).wires)
    where
      go : (b : Bool) → (b ≡ true → Tells c s.wires) → Shows (if b then length c.outputs otherwise 0) (if b then s.wires.outs otherwise [])
      go true k =
          let f = k refl in
          let vs = s.wires.outs in
          record {
            count = length-map vs in_words ∙ f.sized.outs;
            good = values_good c.outputs vs (λ n. at_good c n _ (f.outs n));
            proper = each_proper vs (λ n. at_proper c n _ (f.outs n));
          }
      go false k = record { count = refl; good = values_good c.outputs [] (λ n. refl); proper = [·] }

  pub made_good :
      (t limit : ℕ) (last : Bool) (w : World) (o : Outcome Act) → Makes t limit w o → (o.stop ≡ 0) ⊎ (last ≡ true) → Good c t last (read_back (log_record limit w o))
  unfolding log_record steps
  made_good t limit last w o m l =
      let s = shown w.state o.stop m.holds in
      let b = sym (map_append as_listed o.late o.main) in
      record {
        tick = m.tick;
        steps = good_steps_made limit w.left o.stop m.allowed;
        begun = omega (arith, m.units, length-append (map as_listed o.late) (map as_listed o.main), length-map o.late as_listed, length-map o.main as_listed);
        carried = omega (arith, m.waits, length-map o.carried as_listed);
        stop = good_stop_made o.stop last m.stop l;
        changed = m.changed;
        units_begun = ap (all (good_unit c)) b ∙ units_good c (all_append m.late m.main);
        units_carried = units_good c m.carried;
        shows = s.count;
        outputs = s.good;
      }

-- ---- its words

-- a list of words is read back as it is
words_same : {ws : List ℕ} → All (λ x. x < 2 ^ 64) ws → map as_word ws ≡ ws
words_same [·] = refl
words_same (◌∷·◌ l a) = λ j. mod-eq_of_lt l j ∷ words_same a j

-- no gate has a form above 33
form_small : (c : Circuit) (g f : ℕ) → can_have c g f ≡ true → f < 2 ^ 64
unfolding can_have if◌then◌otherwise◌
form_small c g f h = go (leb f 33) refl
  where
    go : (b : Bool) → leb f 33 ≡ b → f < 2 ^ 64
    go true e = omega (arith, leb-true f 33 e)
    go false e =
        let l : 34 ≤ f = omega (arith, leb-false f 33 e) in
        let n : (m : ℕ) → m ≤ 33 → eqb f m ≡ false = λ m k. ne_eqb f m (λ z. omega (arith, l, z)) in
        absurd (true≢false (sym (rw (n 0 (omega arith), n 1 (omega arith), n 2 (omega arith), le-ltb f 16 (omega arith), le-ltb f 32 (omega arith), le-ltb f 34 (omega arith)) at h)))

values_same : {vs : List Value} → All Proper vs → map as_word (kinds_and_contents vs) ≡ kinds_and_contents (map in_words vs)
unfolding kinds_and_contents
values_same {vs} a = map_append as_word (map kind_of vs) (map content_of vs) ∙ (λ j. row kind_of (λ v _. kind_in_words v) a j ++ row content_of content_in_words a j)
  where
    row : (f : Value → ℕ) → ((v : Value) → Proper v → as_word (f v) ≡ f (in_words v)) → {vs : List Value} → All Proper vs → map as_word (map f vs) ≡ map f (map in_words vs)
    row f k [·] = refl
    row f k (◌∷·◌ {a = v} p a) = λ j. k v p j ∷ row f k a j

module _ (c : Circuit) (gates : length c.kinds ≤ most_gates) where
  units_same : (us : List Listed) → all (good_unit c) us ≡ true → map as_word (gates_and_forms us) ≡ gates_and_forms us
  unfolding gates_and_forms all
  units_same us h =
      words_same (all_append (part (λ (u : Listed). u.gate) (λ u q. (small u q).0) us h) (part (λ (u : Listed). u.form) (λ u q. (small u q).1) us h))
    where
      part : (f : Listed → ℕ) → ((u : Listed) → good_unit c u ≡ true → f u < 2 ^ 64) → (us : List Listed) → all (good_unit c) us ≡ true → All (λ x. x < 2 ^ 64) (map f us)
      part f k [] h = [·]
      part f k (u ∷ us) h = let q = both_true (good_unit c u) _ h in ◌∷·◌ (k u q.0) (part f k us q.1)

      small : (u : Listed) → good_unit c u ≡ true → (u.gate < 2 ^ 64) × (u.form < 2 ^ 64)
      small u h = let q = unit_parts c u h in (omega (arith, gates, ltb-true u.gate _ q.0), form_small c u.gate u.form q.1)

  stop_small : (s : ℕ) → Stop s → s < 2 ^ 64
  stop_small s (inl e) = omega (arith, e)
  stop_small s (inr (inl e)) = omega (arith, e)
  stop_small s (inr (inr e)) = omega (arith, e)

  steps_small : (limit left : ℕ) (b : Bool) → limit ≤ most_steps → limit - left + (if b then 1 otherwise 0) < 2 ^ 64
  steps_small limit left b k = if_both (λ (n : ℕ). limit - left + n < 2 ^ 64) b (omega (arith, k)) (omega (arith, k))

  pub made_words :
      (t limit : ℕ) (w : World) (o : Outcome Act) → t < 2 ^ 64 → Makes c t limit w o →
      map as_word (record_words (log_record limit w o)) ≡ record_words (read_back (log_record limit w o))
  unfolding record_words head log_record steps
  made_words t limit w o l m =
      let r = log_record limit w o in
      let g = made_good c t limit true w o m (inr refl) in
      let units = gates_and_forms (r.late ++ r.main) in
      let rest = gates_and_forms r.carried ++ kinds_and_contents r.outs in
      let a₀ : r.tick < 2 ^ 64 = omega (arith, l, m.tick) in
      let a₁ : r.steps < 2 ^ 64 = steps_small limit w.left (eqb o.stop runaway) m.allowed in
      let a₂ : length r.late < 2 ^ 64 = omega (arith, m.units, length-map o.late as_listed) in
      let a₃ : length r.main < 2 ^ 64 = omega (arith, m.units, length-map o.main as_listed) in
      let a₄ : length r.carried < 2 ^ 64 = omega (arith, m.waits, length-map o.carried as_listed) in
      let a₅ : r.stop < 2 ^ 64 = stop_small o.stop m.stop in
      let a₆ : r.changed < 2 ^ 64 = omega (arith, m.changed) in
      let a : All (λ x. x < 2 ^ 64) (head r) = ◌∷·◌ a₀ (◌∷·◌ a₁ (◌∷·◌ a₂ (◌∷·◌ a₃ (◌∷·◌ a₄ (◌∷·◌ a₅ (◌∷·◌ a₆ [·])))))) in
      let v = values_same (shown c w.state o.stop m.holds).proper in
      let e₂ : map as_word rest ≡ gates_and_forms r.carried ++ kinds_and_contents (map in_words r.outs) =
      map_append as_word (gates_and_forms r.carried) (kinds_and_contents r.outs) ∙ (λ j. units_same r.carried g.units_carried j ++ v j) in
      let e₁ : map as_word (units ++ rest) ≡ units ++ (gates_and_forms r.carried ++ kinds_and_contents (map in_words r.outs)) =
      map_append as_word units rest ∙ (λ j. units_same (r.late ++ r.main) g.units_begun j ++ e₂ j) in
      map_append as_word (head r) (units ++ rest) ∙ (λ j. words_same a j ++ e₁ j)

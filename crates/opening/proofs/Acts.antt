-- Loops that file acts in one list, and what an entry of a list stands for.
use Prim.Native.Nat.{ℕ, zero, suc, ◌+◌, ◌-◌, ◌%◌, ◌^◌, ◌≤◌, ◌<◌}
use mathlib.Core.Path.{◌≡◌, refl, sym, ap, subst, ◌∙◌}
use mathlib.Core.Bool.{Bool, true, false, ◌&&◌}
use mathlib.Core.List.{List, [], ◌∷◌, ◌++◌, map}
use native.Mathlib.Omega.{arith}
use borrow.Author.Tests.{eq-eqb, ne_eqb}
use lib.Dec.{eqb}
use lib.ListN.{length, get_or, drop}
use Rattle.schedule.specs.Schedule.{Place, to_late, to_delivered, to_pending, Filed, full, filed}
use Rattle.lists.specs.Lists.{Filed as Answer, NoRoom, Done}
use Rattle.model.specs.declared.Value.{Value}
use Rattle.model.specs.Base.{if◌then◌otherwise◌, keep, joined, both}
use Rattle.model.specs.Value.{same}
use Rattle.model.specs.Circuit.{Circuit, part, kind_of_gate, setting}
use Rattle.model.specs.Script.{stimulus}
use Rattle.model.specs.State.{Act, Send}
use Rattle.model.specs.Opening.{fire, receives, delivered}
use Rattle.links.specs.Links.{cell, net, gates_of_word}
use Rattle.links.proofs.Walking.{none_are}
use Rattle.links.proofs.Reading.{receivers_of}
use Rattle.units.specs.declared.Place.TheVariants.{Late, Pending}
use Rattle.units.specs.View.{gate_of, form_of, brings, entry_of, row_of, act_of, event_of, Lists, Units}
use Rattle.units.specs.Raising.{with_lists, activate, deliver, answer, lists_after}
use Rattle.opening.specs.Opening.{put_to, stimuli_of}
use Rattle.opening.specs.Stages.{Put, put_all, Puts, event, heard_by}
use Rattle.opening.proofs.Stages.{puts_none, puts_next, puts_full}

-- ---- entries

pub gate_in : (g form k : ℕ) → gate_of (entry_of g form k) ≡ g % 2 ^ 16
unfolding gate_of entry_of
gate_in g form k = omega arith

pub form_in : (g form k : ℕ) → form_of (entry_of g form k) ≡ form % 2 ^ 16
unfolding form_of entry_of
form_in g form k = omega arith

pub brings_in : (g form k : ℕ) → brings (entry_of g form k) ≡ k % 2 ^ 16
unfolding brings entry_of
brings_in g form k = omega arith

-- a Fire
pub fire_in : (c : Circuit) (g x : ℕ) → x ≡ entry_of g 0 0 → g < 65536 → act_of c x ≡ record { gate = g; form = 0; row = [] }
unfolding act_of row_of if◌then◌otherwise◌
fire_in c g x e h =
    let p : g % 2 ^ 16 ≡ g = omega arith in
    ap (act_of c) e ∙ rw (gate_in g 0 0, form_in g 0 0, p)

-- a stimulus
pub stimulus_in : (c : Circuit) (g k x : ℕ) → x ≡ entry_of g 2 k → act_of c x ≡ stimulus c.constants (g % 2 ^ 16) (k % 2 ^ 16)
unfolding act_of row_of if◌then◌otherwise◌ stimulus
stimulus_in c g k x e = ap (act_of c) e ∙ rw (gate_in g 2 k, form_in g 2 k, brings_in g 2 k)

-- a delivered event
pub event_in : (u : Units) (g e : ℕ) → g < 65536 → e < 65536 → event_of u.events (entry_of g 1 e) ≡ record { gate = g; form = 1; row = (event u e).row }
unfolding event_of event
event_in u g e h k =
    let p : g % 2 ^ 16 ≡ g = omega arith in
    let q : e % 2 ^ 16 ≡ e = omega arith in
    rw (gate_in g 1 e, brings_in g 1 e, p, q)

-- ---- one act

abbrev put_answer : Put → Answer
put_answer w = w.answer

abbrev put_lists : Put → Lists
put_lists w = w.lists

put_one : (c : Circuit) (p : Place) (u v : Units) (r : Answer) (a : Act) → r ≡ answer (put_to c p a u.lists) →
    v ≡ with_lists u (lists_after u.lists (put_to c p a u.lists)) → Puts c u v r p (a ∷ [])
unfolding put_all answer lists_after
put_one c p u v r a e h = let x = go (put_to c p a u.lists) e h in record { units = x.0; answer = x.1 }
  where
    go : (q : Filed Lists) → r ≡ answer q → v ≡ with_lists u (lists_after u.lists q) →
        (v ≡ with_lists u (put_lists (elim q [ full ↦ record { lists = u.lists; answer = NoRoom } | filed k ↦ record { lists = k; answer = Done } ])))
        × (r ≡ put_answer (elim q [ full ↦ record { lists = u.lists; answer = NoRoom } | filed k ↦ record { lists = k; answer = Done } ]))
    go full e h = (h, e)
    go (filed k) e h = (h, e)

-- a Fire, to late and to pending
module _
    (c : Circuit) (u v : Units) (r : Answer) (g x : ℕ) (b : g < 65536) (ex : x ≡ entry_of g 0 0)
  where
    pub fire_late_one : (r ≡ answer (activate c Late (act_of c x) u.lists)) × (v ≡ with_lists u (lists_after u.lists (activate c Late (act_of c x) u.lists))) →
        Puts c u v r to_late (record { gate = g; form = 0; row = [] } ∷ [])
    unfolding put_to
    fire_late_one h = subst (λ (a : Act). Puts c u v r to_late (a ∷ [])) (fire_in c g x ex b) (put_one c to_late u v r (act_of c x) h.0 h.1)

    pub fire_pending_one : (r ≡ answer (activate c Pending (act_of c x) u.lists)) × (v ≡ with_lists u (lists_after u.lists (activate c Pending (act_of c x) u.lists))) →
        Puts c u v r to_pending (fire 1 g)
    unfolding put_to fire
    fire_pending_one h = subst (λ (a : Act). Puts c u v r to_pending (a ∷ [])) (fire_in c g x ex b) (put_one c to_pending u v r (act_of c x) h.0 h.1)

-- ---- a loop that files

-- with these acts left to file in the area u, what they come to is what all acts come to in the area u₀
abbrev pub Still : Circuit → Place → Units → List Act → Units → List Act → Type 0
Still c p u₀ all u acts = (v : Units) (r : Answer) → Puts c u v r p acts → Puts c u₀ v r p all

module _ (c : Circuit) (p : Place) (u₀ u v : Units) (all acts xs ys : List Act) (r : Answer) (s : Still c p u₀ all u acts) (e : acts ≡ xs ++ ys) (h : Puts c u v r p xs) where
  still_next : r ≡ Done → Still c p u₀ all v ys
  still_next i w q k =
      s w q (subst (λ (l : List Act). Puts c u w q p l) (sym e) (puts_next c p u v w q xs ys (subst (λ (x : Answer). Puts c u v x p xs) i h) k))

  still_full : r ≡ NoRoom → Puts c u₀ v NoRoom p all
  still_full i = s v NoRoom (subst (λ (l : List Act). Puts c u v NoRoom p l) (sym e) (puts_full c p u v xs ys (subst (λ (x : Answer). Puts c u v x p xs) i h)))

still_last : (c : Circuit) (p : Place) (u₀ u : Units) (all acts : List Act) → Still c p u₀ all u acts → acts ≡ [] → Puts c u₀ u Done p all
still_last c p u₀ u all acts s e = s u Done (subst (λ (l : List Act). Puts c u u Done p l) (sym e) (puts_none c p u))

-- ---- Fires

fire_more : (n k g : ℕ) → k < n → fire (n - k) g ≡ (record { gate = g; form = 0; row = [] } ∷ []) ++ fire (n - (k + 1)) g
unfolding fire
fire_more n k g h = let e : n - k ≡ suc (n - (k + 1)) = omega arith in rw e

pub fires_first : (c : Circuit) (u : Units) (n g : ℕ) → Still c to_late u (fire n g) u (fire (n - 0) g)
fires_first c u n g v r h = let e : n - 0 ≡ n = omega arith in subst (λ (m : ℕ). Puts c u v r to_late (fire m g)) e h

module _
    (c : Circuit) (u₀ u v : Units) (r : Answer) (g n k x : ℕ) (b : g < 65536) (ex : x ≡ entry_of g 0 0) (s : Still c to_late u₀ (fire n g) u (fire (n - k) g)) (l : k < n)
    (h : (r ≡ answer (activate c Late (act_of c x) u.lists)) × (v ≡ with_lists u (lists_after u.lists (activate c Late (act_of c x) u.lists))))
  where
    pub fires_next : r ≡ Done → Still c to_late u₀ (fire n g) v (fire (n - (k + 1)) g)
    fires_next i = still_next c to_late u₀ u v (fire n g) _ _ _ r s (fire_more n k g l) (fire_late_one c u v r g x b ex h) i

    pub fires_full : r ≡ NoRoom → Puts c u₀ v NoRoom to_late (fire n g)
    fires_full i = still_full c to_late u₀ u v (fire n g) _ _ _ r s (fire_more n k g l) (fire_late_one c u v r g x b ex h) i

pub fires_last : (c : Circuit) (u₀ u : Units) (g n k : ℕ) → Still c to_late u₀ (fire n g) u (fire (n - k) g) → n ≤ k → Puts c u₀ u Done to_late (fire n g)
unfolding fire
fires_last c u₀ u g n k s h = let e : n - k ≡ 0 = omega arith in still_last c to_late u₀ u (fire n g) _ s (rw e)

-- ---- events

-- what one receiver hears
module _ (c : Circuit) (u v : Units) (b : Answer) (kind e r : ℕ) (channel : Value) (t : Bool) (et : t ≡ (eqb (kind_of_gate c r) (kind + 2) && same channel (setting c r 0))) where
  pub heard_one : t ≡ true → e < 65536 → r < 65536 →
      (b ≡ answer (deliver (event_of u.events (entry_of r 1 e)) u.lists)) × (v ≡ with_lists u (lists_after u.lists (deliver (event_of u.events (entry_of r 1 e)) u.lists))) →
      Puts c u v b to_delivered (heard_by c kind channel (event u e).row (r ∷ []))
  unfolding heard_by keep if◌then◌otherwise◌ put_to
  heard_one i ke kr h =
      rw (sym et ∙ i) (subst (λ (a : Act). Puts c u v b to_delivered (a ∷ [])) (event_in u r e kr ke) (put_one c to_delivered u v b _ h.0 h.1))

pub heard_none : (c : Circuit) (u : Units) (kind e r : ℕ) (channel : Value) (t : Bool) → t ≡ (eqb (kind_of_gate c r) (kind + 2) && same channel (setting c r 0)) → t ≡ false →
    Puts c u u Done to_delivered (heard_by c kind channel (event u e).row (r ∷ []))
unfolding heard_by keep if◌then◌otherwise◌
heard_none c u kind e r channel t et i = rw (sym et ∙ i) (puts_none c to_delivered u)

-- whether r receives
pub hears_low : (k kind m : ℕ) (t : Bool) → k ≡ m → k < 2 → false ≡ (eqb m (kind + 2) && t)
hears_low k kind m t e h = rw (ne_eqb m (kind + 2) (λ z. omega arith))

pub hears_other : (k kind m : ℕ) (t : Bool) → k ≡ m → 2 ≤ k → (k - 2 ≡ kind → ⊥) → false ≡ (eqb m (kind + 2) && t)
hears_other k kind m t e h d = rw (ne_eqb m (kind + 2) (λ z. d (omega arith)))

pub hears_by : (k kind m : ℕ) (x : Bool) (channel v w : Value) → k ≡ m → 2 ≤ k → k - 2 ≡ kind → v ≡ w → x ≡ same channel v → x ≡ (eqb m (kind + 2) && same channel w)
hears_by k kind m x channel v w e h d j i = let q : m ≡ kind + 2 = omega arith in rw (eq-eqb m (kind + 2) q) (i ∙ ap (same channel) j)

heard_append : (c : Circuit) (kind : ℕ) (channel : Value) (row : List Value) (g : ℕ) (gs : List ℕ) →
    heard_by c kind channel row (g ∷ gs) ≡ heard_by c kind channel row (g ∷ []) ++ heard_by c kind channel row gs
unfolding heard_by keep if◌then◌otherwise◌
heard_append c kind channel row g gs = go (eqb (kind_of_gate c g) (kind + 2) && same channel (setting c g 0))
  where
    heard : List ℕ → List Act
    heard = map (λ r. record { gate = r; form = 1; row = row })

    rest : List ℕ
    rest = keep (λ r. eqb (kind_of_gate c r) (kind + 2) && same channel (setting c r 0)) gs

    go : (b : Bool) → heard (if b then g ∷ rest otherwise rest) ≡ heard (if b then g ∷ [] otherwise []) ++ heard rest
    go true = refl
    go false = refl

first_and_rest : (gs : List ℕ) (g : ℕ) → g ≡ get_or gs 0 64 → g < 64 → gs ≡ g ∷ drop 1 gs
first_and_rest [] g e h = absurd (omega arith)
first_and_rest (x ∷ gs) g e h = ap (λ y. y ∷ gs) (sym e)

-- a loop over the receivers
module _ (c : Circuit) (u₀ : Units) (kind e : ℕ) (channel : Value) where
  -- what the gates gs hear
  abbrev pub hear : List ℕ → List Act
  hear gs = heard_by c kind channel (event u₀ e).row gs

  module _
      (u v : Units) (all : List Act) (d k r : ℕ) (b : Answer) (ev : u.events ≡ u₀.events) (er : r ≡ get_or (gates_of_word d) 0 64)
      (s : Still c to_delivered u₀ all u (hear (gates_of_word d))) (l : r < 64) (ek : gates_of_word k ≡ drop 1 (gates_of_word d))
      (h : Puts c u v b to_delivered (heard_by c kind channel (event u e).row (r ∷ [])))
    where
      one : Puts c u v b to_delivered (hear (r ∷ []))
      unfolding event
      one = subst (λ (ms : List Send). Puts c u v b to_delivered (heard_by c kind channel (get_or (map (λ (m : Send). m.row) ms) e []) (r ∷ []))) ev h

      more : hear (gates_of_word d) ≡ hear (r ∷ []) ++ hear (gates_of_word k)
      more = ap hear (first_and_rest (gates_of_word d) r er l ∙ ap (λ (gs : List ℕ). r ∷ gs) (sym ek)) ∙ heard_append c kind channel (event u₀ e).row r (gates_of_word k)

      pub hear_next : b ≡ Done → Still c to_delivered u₀ all v (hear (gates_of_word k))
      hear_next i = still_next c to_delivered u₀ u v all _ _ _ b s more one i

      pub hear_full : b ≡ NoRoom → Puts c u₀ v NoRoom to_delivered all
      hear_full i = still_full c to_delivered u₀ u v all _ _ _ b s more one i

  pub hear_last : (u : Units) (all : List Act) (d r : ℕ) → r ≡ get_or (gates_of_word d) 0 64 → Still c to_delivered u₀ all u (hear (gates_of_word d)) → 64 ≤ r →
      Puts c u₀ u Done to_delivered all
  unfolding heard_by keep
  hear_last u all d r er s h = still_last c to_delivered u₀ u all _ s (ap hear (none_are d r er h))

-- it begins with all receivers
pub hear_first :
    (l : List ℕ) (u₀ : Units) (kind e g d : ℕ) (channel : Value) → g ≡ get_or (map (λ m. m.gate) u₀.events) e 0 → kind ≡ kind_of_gate (net l) g →
    channel ≡ setting (net l) g 1 → d ≡ cell l 8 → Still (net l) to_delivered u₀ (delivered (net l) (event u₀ e)) u₀ (hear (net l) u₀ kind e channel (gates_of_word d))
unfolding heard_by delivered receives event
hear_first l u₀ kind e g d channel eg ek eh ed v r h =
    let kind_is : kind ≡ kind_of_gate (net l) (event u₀ e).gate = ek ∙ ap (kind_of_gate (net l)) eg in
    let channel_is : channel ≡ setting (net l) (event u₀ e).gate 1 = eh ∙ ap (λ (x : ℕ). setting (net l) x 1) eg in
    let gates_are : gates_of_word d ≡ (net l).receivers = ap gates_of_word ed ∙ receivers_of l in
    let q : heard_by (net l) kind channel (event u₀ e).row (gates_of_word d) ≡ delivered (net l) (event u₀ e) =
    λ j. heard_by (net l) (kind_is j) (channel_is j) (event u₀ e).row (gates_are j)
    in
    subst (λ (acts : List Act). Puts (net l) u₀ v r to_delivered acts) q h

-- ---- all events

drop_all : (ms : List Send) (e : ℕ) → length ms ≤ e → drop e ms ≡ []
drop_all [] zero h = refl
drop_all [] (suc e) h = refl
drop_all (m ∷ ms) zero h = absurd (omega arith)
drop_all (m ∷ ms) (suc e) h = drop_all ms e (omega arith)

drop_event : (ms : List Send) (e : ℕ) → e < length ms →
    drop e ms ≡ record { gate = get_or (map (λ (m : Send). m.gate) ms) e 0; row = get_or (map (λ (m : Send). m.row) ms) e [] } ∷ drop (suc e) ms
drop_event [] e h = absurd (omega arith)
drop_event (m ∷ ms) zero h = refl
drop_event (m ∷ ms) (suc e) h = drop_event ms e (omega arith)

module _ (c : Circuit) (u₀ : Units) where
  -- what the events from e on raise
  abbrev pub raised_from : ℕ → List Act
  raised_from e = joined (map (delivered c) (drop e u₀.events))

  module _
      (u v : Units) (all : List Act) (n e : ℕ) (r : Answer) (en : n ≡ length u₀.events) (ev : u.events ≡ u₀.events)
      (s : Still c to_delivered u₀ all u (raised_from e)) (l : e < n) (h : Puts c u v r to_delivered (delivered c (event u e)))
    where
      this_event : Puts c u v r to_delivered (delivered c (event u₀ e))
      unfolding event
      this_event =
          subst
          (λ (ms : List Send). Puts c u v r to_delivered (delivered c (record { gate = get_or (map (λ (m : Send). m.gate) ms) e 0; row = get_or (map (λ (m : Send). m.row) ms) e [] })))
          ev
          h

      other_events : raised_from e ≡ delivered c (event u₀ e) ++ raised_from (e + 1)
      unfolding event joined
      other_events =
          let q : e + 1 ≡ suc e = omega arith in
          ap (λ (ms : List Send). joined (map (delivered c) ms)) (drop_event u₀.events e (omega arith)) ∙ rw q

      pub events_next : r ≡ Done → Still c to_delivered u₀ all v (raised_from (e + 1))
      events_next i = still_next c to_delivered u₀ u v all _ _ _ r s other_events this_event i

      pub events_full : r ≡ NoRoom → Puts c u₀ v NoRoom to_delivered all
      events_full i = still_full c to_delivered u₀ u v all _ _ _ r s other_events this_event i

  pub events_last : (u : Units) (all : List Act) (n e : ℕ) → n ≡ length u₀.events → Still c to_delivered u₀ all u (raised_from e) → n ≤ e → Puts c u₀ u Done to_delivered all
  unfolding joined
  events_last u all n e en s h =
      still_last c to_delivered u₀ u all _ s (ap (λ (ms : List Send). joined (map (delivered c) ms)) (drop_all u₀.events e (omega arith)))

-- the events of the tick before stay as acts are filed
pub events_stay : (c : Circuit) (p : Place) (u v : Units) (r : Answer) (acts : List Act) (es : List Send) → u.events ≡ es → Puts c u v r p acts → v.events ≡ es
events_stay c p u v r acts es e h = ap (λ (x : Units). x.events) h.units ∙ e

-- ---- stimuli

drop_more : (ws : List ℕ) (i : ℕ) → i < length ws → drop i ws ≡ get_or ws i 0 ∷ drop (suc i) ws
drop_more [] i h = absurd (omega arith)
drop_more (w ∷ ws) zero h = refl
drop_more (w ∷ ws) (suc i) h = drop_more ws i (omega arith)

part_more : (ws : List ℕ) (a n k : ℕ) → a + n ≤ length ws → k < n → part ws (a + k) (n - k) ≡ get_or ws (a + k) 0 ∷ part ws (a + (k + 1)) (n - (k + 1))
unfolding part
part_more ws a n k l h =
    let p : n - k ≡ suc (n - (k + 1)) = omega arith in
    let q : a + (k + 1) ≡ suc (a + k) = omega arith in
    rw (p, q, drop_more ws (a + k) (omega arith))

module _ (c : Circuit) (ws : List ℕ) (a b n : ℕ) where
  -- the stimuli from number k on
  abbrev pub stimuli_from : ℕ → List Act
  stimuli_from k = stimuli_of c ws (a + k) (b + k) (n - k)

  module _
      (u₀ u v : Units) (k g m x : ℕ) (r : Answer) (la : a + n ≤ length ws) (lb : b + n ≤ length ws)
      (s : Still c to_late u₀ (stimuli_of c ws a b n) u (stimuli_from k)) (l : k < n) (eg : g ≡ get_or ws (a + k) 0) (em : m ≡ get_or ws (b + k) 0) (ex : x ≡ entry_of g 2 m)
      (h : (r ≡ answer (activate c Late (act_of c x) u.lists)) × (v ≡ with_lists u (lists_after u.lists (activate c Late (act_of c x) u.lists))))
    where
      this_stimulus : Puts c u v r to_late (stimulus c.constants (g % 2 ^ 16) (m % 2 ^ 16) ∷ [])
      unfolding put_to
      this_stimulus = subst (λ (y : Act). Puts c u v r to_late (y ∷ [])) (stimulus_in c g m x ex) (put_one c to_late u v r (act_of c x) h.0 h.1)

      other_stimuli : stimuli_from k ≡ (stimulus c.constants (g % 2 ^ 16) (m % 2 ^ 16) ∷ []) ++ stimuli_from (k + 1)
      unfolding stimuli_of both
      other_stimuli = rw (part_more ws a n k la l, part_more ws b n k lb l, eg, em)

      pub stimuli_next : r ≡ Done → Still c to_late u₀ (stimuli_of c ws a b n) v (stimuli_from (k + 1))
      stimuli_next i = still_next c to_late u₀ u v _ _ _ _ r s other_stimuli this_stimulus i

      pub stimuli_full : r ≡ NoRoom → Puts c u₀ v NoRoom to_late (stimuli_of c ws a b n)
      stimuli_full i = still_full c to_late u₀ u v _ _ _ _ r s other_stimuli this_stimulus i

  pub stimuli_first : (u : Units) → Still c to_late u (stimuli_of c ws a b n) u (stimuli_from 0)
  stimuli_first u v r h =
      let p : n - 0 ≡ n = omega arith in
      let q : a + 0 ≡ a = omega arith in
      let o : b + 0 ≡ b = omega arith in
      rw (sym p, sym q, sym o) h

  pub stimuli_last : (u₀ u : Units) (k : ℕ) → Still c to_late u₀ (stimuli_of c ws a b n) u (stimuli_from k) → n ≤ k → Puts c u₀ u Done to_late (stimuli_of c ws a b n)
  unfolding stimuli_of part both
  stimuli_last u₀ u k s h = let p : n - k ≡ 0 = omega arith in still_last c to_late u₀ u _ _ s (rw p)

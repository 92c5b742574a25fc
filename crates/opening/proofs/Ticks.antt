-- The stages of the opening put together.
use Prim.Native.Nat.{ℕ}
use mathlib.Core.Path.{◌≡◌, sym, ap, subst, ◌∙◌}
use mathlib.Core.Bool.{Bool}
use mathlib.Core.List.{List, map, append-nil, append_assoc}
use lib.ListN.{length}
use Rattle.schedule.specs.Schedule.{to_late, to_delivered}
use Rattle.lists.specs.Lists.{Filed as Answer, NoRoom, Done}
use Rattle.model.specs.Base.{joined, each, from}
use Rattle.model.specs.Value.{bit, narrow, narrow_changes}
use Rattle.model.specs.Circuit.{Circuit}
use Rattle.model.specs.Script.{Given}
use Rattle.model.specs.State.{Act, Send, State, wires≔, outbox≔, changed≔}
use Rattle.model.specs.Wires.{invalidate}
use Rattle.model.specs.Settle.{settle}
use Rattle.model.specs.Opening.{Opened, raised_to, next_tick, begin_tick, delivered, lower, advance_buffer, advance_clock, advance_timer, open_tick}
use Rattle.wires.specs.View.{Values, with_wires}
use Rattle.states.specs.View.{Delays, with_changed}
use Rattle.units.specs.declared.Place.TheVariants.{Pending}
use Rattle.units.specs.View.{Units}
use Rattle.units.specs.Calls.{reopened as next_units}
use Rattle.areas.specs.Areas.{Contents, together, with_state, with_went}
use Rattle.settling.specs.Settling.{filed_into}
use Rattle.opening.specs.Opening.{opened_into, unopened, Opens, reopened, opened}
use Rattle.opening.specs.Stages.{Puts, arrived, lowered, advanced_all, pending_all, settled_after, finished}
use Rattle.opening.proofs.Raises.{raise_pending}
use Rattle.opening.proofs.Stages.{after, opens_state, opens_next, opens_full, opens_puts, opens_from, Adds, each_adds, buffer_adds, clock_adds, timer_adds}

-- ---- a stage of gates after what came before

module _ (c : Circuit) (f : Opened → ℕ → Opened) (h : Adds f) (gs : List ℕ) where
  each_after : (z y : Opened) → each f (after z y) gs ≡ after z (each f y gs)
  each_after z y =
      each_adds f h (after z y) gs ∙ (λ j. record { state = (each f (unopened y.state) gs).state; raises = append_assoc z.raises y.raises (each f (unopened y.state) gs).raises j })
      ∙ ap (after z) (sym (each_adds f h y gs))

  stage_full : (a b : Contents) (z : Opened) → Opens c a b NoRoom z → Opens c a b NoRoom (each f z gs)
  stage_full a b z o = subst (λ (x : Opened). Opens c a b NoRoom x) (sym (each_adds f h z gs)) (opens_full c a b z _ o)

  stage_next : (a b d : Contents) (r : Answer) (z : Opened) → Opens c a b Done z → Opens c b d r (each f (unopened b.state) gs) → Opens c a d r (each f z gs)
  stage_next a b d r z o p =
      subst (λ (x : Opened). Opens c a d r x) (sym (each_adds f h z gs))
      (opens_next c a b d r z _ o (subst (λ (s : State). Opens c b d r (each f (unopened s) gs)) (opens_state c a b z o) p))

-- an answer that is known
full_opens : (c : Circuit) (a b : Contents) (r : Answer) (z : Opened) → r ≡ NoRoom → Opens c a b r z → Opens c a b NoRoom z
full_opens c a b r z i o = subst (λ (x : Answer). Opens c a b x z) i o

done_opens : (c : Circuit) (a b : Contents) (r : Answer) (z : Opened) → r ≡ Done → Opens c a b r z → Opens c a b Done z
done_opens c a b r z i o = subst (λ (x : Answer). Opens c a b x z) i o

-- ---- buffers and Queues, Clocks, Stopwatches

module _ (c : Circuit) (dt : ℕ) (a b : Contents) (r : Answer) (o : Opens c a b r (each (advance_buffer c dt) (unopened a.state) c.buffers)) where
  pub buffers_full : r ≡ NoRoom → Opens c a b NoRoom (advanced_all c dt a.state)
  unfolding advanced_all
  buffers_full i =
      stage_full c (advance_timer c) (timer_adds c) c.stopwatches a b _ (stage_full c (advance_clock c) (clock_adds c) c.clocks a b _ (full_opens c a b r _ i o))

  module _
      (d : Contents) (r₁ : Answer) (i : r ≡ Done) (o₁ : Opens c b d r₁ (each (advance_clock c) (unopened b.state) c.clocks))
    where
      two_stages : Opens c a d r₁ (each (advance_clock c) (each (advance_buffer c dt) (unopened a.state) c.buffers) c.clocks)
      two_stages = stage_next c (advance_clock c) (clock_adds c) c.clocks a b d r₁ _ (done_opens c a b r _ i o) o₁

      pub clocks_full : r₁ ≡ NoRoom → Opens c a d NoRoom (advanced_all c dt a.state)
      unfolding advanced_all
      clocks_full i₁ = stage_full c (advance_timer c) (timer_adds c) c.stopwatches a d _ (full_opens c a d r₁ _ i₁ two_stages)

      pub all_advance : (x : Contents) (r₂ : Answer) → r₁ ≡ Done → Opens c d x r₂ (each (advance_timer c) (unopened d.state) c.stopwatches) →
          Opens c a x r₂ (advanced_all c dt a.state)
      unfolding advanced_all
      all_advance x r₂ i₁ o₂ =
          stage_next c (advance_timer c) (timer_adds c) c.stopwatches a d x r₂ _ (done_opens c a d r₁ _ i₁ two_stages) o₂

-- ---- events and stimuli

module _
    (c : Circuit) (u u₁ : Units) (stimuli : List Act) (r : Answer) (h : Puts c u u₁ r to_delivered (joined (map (delivered c) u.events)))
  where
    pub events_stop : r ≡ NoRoom → (v : Values) (d : Delays) → Opens c (together v u d) (together v u₁ d) NoRoom (arrived c (together v u d).state u.events stimuli)
    unfolding arrived
    events_stop i v d =
        let s : State = (together v u d).state in
        opens_full c (together v u d) (together v u₁ d) (record { state = s; raises = raised_to to_delivered s (joined (map (delivered c) u.events)) })
        (record { state = s; raises = raised_to to_late s stimuli })
        (full_opens c (together v u d) (together v u₁ d) r _ i (opens_puts c v u u₁ d r to_delivered (joined (map (delivered c) u.events)) h))

    pub all_arrive : (u₂ : Units) (r₂ : Answer) → r ≡ Done → Puts c u₁ u₂ r₂ to_late stimuli → (v : Values) (d : Delays) →
        Opens c (together v u d) (together v u₂ d) r₂ (arrived c (together v u d).state u.events stimuli)
    unfolding arrived
    all_arrive u₂ r₂ i k v d =
        let s : State = (together v u d).state in
        let z : Opened = record { state = s; raises = raised_to to_delivered s (joined (map (delivered c) u.events)) } in
        let o : Opens c (together v u d) (together v u₁ d) Done z =
        done_opens c (together v u d) (together v u₁ d) r z i (opens_puts c v u u₁ d r to_delivered (joined (map (delivered c) u.events)) h)
        in
        opens_next c (together v u d) (together v u₁ d) (together v u₂ d) r₂ z (record { state = s; raises = raised_to to_late s stimuli }) o
        (subst (λ (x : State). Opens c (together v u₁ d) (together v u₂ d) r₂ (record { state = x; raises = raised_to to_late x stimuli })) (opens_state c (together v u d) (together v u₁ d) z o)
        (opens_puts c v u₁ u₂ d r₂ to_late stimuli k))

-- ---- the last stage

-- settling, with what it raises pending
settles : (c : Circuit) (a b : Contents) (r : Answer) →
    (b ≡ with_went a (filed_into c Pending (settle c a.state) a.lists)) × (r ≡ (filed_into c Pending (settle c a.state) a.lists).answer) →
    Opens c a b r (pending_all (settle c a.state))
unfolding filed_into opened_into pending_all
settles c a b r h =
    let q = raise_pending c (settle c a.state).raises a.lists (settle c a.state).state in
    record { areas = h.0 ∙ (λ j. with_went a (sym q j)); answer = h.1 ∙ (λ j. (sym q j).answer) }

module _
    (c : Circuit) (v v₁ v₂ : Values) (u u₂ : Units) (d d₂ : Delays) (dt : ℕ) (r : Answer)
    (e₁ : v₁ ≡ with_wires v (each (lower c) v.wires (from 0 (length c.outputs)))) (o : Opens c (together v₁ u d) (together v₂ u₂ d₂) r (advanced_all c dt (together v₁ u d).state))
  where
    lowers : together v₁ u d ≡ with_state (together v u d) (lowered c (together v u d).state)
    unfolding lowered wires≔
    lowers = λ j. together (e₁ j) u d

    moved_on : Opens c (together v u d) (together v₂ u₂ d₂) r (advanced_all c dt (lowered c (together v u d).state))
    moved_on =
        subst (λ (z : Opened). Opens c (together v u d) (together v₂ u₂ d₂) r z) (λ j. advanced_all c dt (lowers j).state)
        (opens_from c (together v u d) (together v₁ u d) (together v₂ u₂ d₂) (lowered c (together v u d).state) r (advanced_all c dt (together v₁ u d).state) lowers o)

    pub advance_stops : r ≡ NoRoom → Opens c (together v u d) (together v₂ u₂ d₂) NoRoom (finished c (advanced_all c dt (lowered c (together v u d).state)))
    unfolding finished
    advance_stops i = opens_full c (together v u d) (together v₂ u₂ d₂) _ _ (full_opens c (together v u d) (together v₂ u₂ d₂) r _ i moved_on)

    pub finishes : (v₃ : Values) (b : Contents) (r₂ : Answer) → r ≡ Done → v₃ ≡ with_wires v₂ (each (invalidate c) v₂.wires c.time_sources) →
        (b ≡ with_went (together v₃ u₂ d₂) (filed_into c Pending (settle c (together v₃ u₂ d₂).state) (together v₃ u₂ d₂).lists))
        × (r₂ ≡ (filed_into c Pending (settle c (together v₃ u₂ d₂).state) (together v₃ u₂ d₂).lists).answer) →
        Opens c (together v u d) b r₂ (finished c (advanced_all c dt (lowered c (together v u d).state)))
    unfolding finished settled_after wires≔
    finishes v₃ b r₂ i e₃ h =
        let z : Opened = advanced_all c dt (lowered c (together v u d).state) in
        let o' : Opens c (together v u d) (together v₂ u₂ d₂) Done z = done_opens c (together v u d) (together v₂ u₂ d₂) r z i moved_on in
        let stale : State = wires≔ (together v₂ u₂ d₂).state (each (invalidate c) v₂.wires c.time_sources) in
        let q : together v₃ u₂ d₂ ≡ with_state (together v₂ u₂ d₂) stale = λ j. together (e₃ j) u₂ d₂ in
        let p : Opens c (together v₂ u₂ d₂) b r₂ (pending_all (settle c (together v₃ u₂ d₂).state)) =
        opens_from c (together v₂ u₂ d₂) (together v₃ u₂ d₂) b stale r₂ _ q (settles c (together v₃ u₂ d₂) b r₂ h)
        in
        let p' : Opens c (together v₂ u₂ d₂) b r₂ (settled_after c (together v₂ u₂ d₂).state) =
        subst (λ (s : State). Opens c (together v₂ u₂ d₂) b r₂ (pending_all (settle c s))) (ap (λ (x : Contents). x.state) q) p
        in
        opens_next c (together v u d) (together v₂ u₂ d₂) b r₂ z (settled_after c z.state) o'
        (subst (λ (s : State). Opens c (together v₂ u₂ d₂) b r₂ (settled_after c s)) (opens_state c (together v u d) (together v₂ u₂ d₂) z o') p')

-- ---- the whole

pub tick_begins :
    (c : Circuit) (v v₁ : Values) (u u₁ : Units) (d d₁ : Delays) (dt : ℕ) (changed : Bool) → u₁ ≡ next_units c u → v₁ ≡ with_wires v (next_tick v.wires dt) →
    d₁ ≡ with_changed d (bit changed) → changed ≡ narrow_changes dt → together v₁ u₁ d₁ ≡ with_state (reopened c (together v u d)) (begin_tick (together v u d).state dt)
unfolding reopened next_units begin_tick wires≔ outbox≔ changed≔
tick_begins c v v₁ u u₁ d d₁ dt changed eu ev ed en =
    let e : d₁ ≡ with_changed d (bit (narrow_changes dt)) = ed ∙ ap (λ (b : Bool). with_changed d (bit b)) en in
    λ j. together (ev j) (eu j) (e j)

-- the definition, in these stages
open_stages :
    (c : Circuit) (s : State) (given : Given) →
    open_tick c s given
    ≡ after (arrived c (begin_tick s given.dt) s.outbox given.stimuli) (finished c (advanced_all c (narrow given.dt) (lowered c (begin_tick s given.dt))))
unfolding open_tick arrived advanced_all lowered finished settled_after pending_all unopened
open_stages c s given =
    let s₁ : State = begin_tick s given.dt in
    let s₂ : State = lowered c s₁ in
    let z : Opened = arrived c s₁ s.outbox given.stimuli in
    let y : Opened = unopened s₂ in
    let start : ◌≡◌ {A = Opened} (record { state = s₂; raises = z.raises }) (after z y) = λ j. record { state = s₂; raises = sym (append-nil z.raises) j } in
    let b = advance_buffer c (narrow given.dt) in
    let q : each (advance_timer c) (each (advance_clock c) (each b (record { state = s₂; raises = z.raises }) c.buffers) c.clocks) c.stopwatches
    ≡ after z (advanced_all c (narrow given.dt) s₂) =
    ap (λ (x : Opened). each (advance_timer c) (each (advance_clock c) (each b x c.buffers) c.clocks) c.stopwatches) start
    ∙ ap (λ (x : Opened). each (advance_timer c) (each (advance_clock c) x c.clocks) c.stopwatches) (each_after c b (buffer_adds c (narrow given.dt)) c.buffers z y)
    ∙ ap (λ (x : Opened). each (advance_timer c) x c.stopwatches) (each_after c (advance_clock c) (clock_adds c) c.clocks z _)
    ∙ each_after c (advance_timer c) (timer_adds c) c.stopwatches z _
    in
    ap (finished c) q ∙ (λ j. record { state = (settled_after c (advanced_all c (narrow given.dt) s₂).state).state; raises = append_assoc z.raises (advanced_all c (narrow given.dt) s₂).raises (settled_after c (advanced_all c (narrow given.dt) s₂).state).raises j })

module _
    (c : Circuit) (a b x : Contents) (given : Given) (r : Answer) (events : List Send) (eb : b ≡ with_state (reopened c a) (begin_tick a.state given.dt)) (ee : events ≡ b.kept.events)
    (o : Opens c b x r (arrived c b.state events given.stimuli))
  where
    came : Opens c (reopened c a) x r (arrived c (begin_tick a.state given.dt) a.state.outbox given.stimuli)
    unfolding reopened
    came =
        let q : events ≡ a.state.outbox = ee ∙ ap (λ (y : Contents). y.kept.events) eb in
        opens_from c (reopened c a) b x (begin_tick a.state given.dt) r _ eb
        (subst (λ (ms : List Send). Opens c b x r (arrived c (begin_tick a.state given.dt) ms given.stimuli)) q
        (subst (λ (s : State). Opens c b x r (arrived c s events given.stimuli)) (ap (λ (y : Contents). y.state) eb) o))

    pub open_stops : r ≡ NoRoom → (x ≡ with_went (reopened c a) (opened c a given)) × (NoRoom ≡ (opened c a given).answer)
    unfolding opened
    open_stops i =
        let k : Opens c (reopened c a) x NoRoom (open_tick c a.state given) =
        subst (λ (z : Opened). Opens c (reopened c a) x NoRoom z) (sym (open_stages c a.state given))
        (opens_full c (reopened c a) x _ _ (full_opens c (reopened c a) x r _ i came))
        in
        (k.areas, k.answer)

    pub opens_all : (y : Contents) (r₂ : Answer) (length : ℕ) → length ≡ narrow given.dt → r ≡ Done → Opens c x y r₂ (finished c (advanced_all c length (lowered c x.state))) →
        (y ≡ with_went (reopened c a) (opened c a given)) × (r₂ ≡ (opened c a given).answer)
    unfolding opened arrived
    opens_all y r₂ length en i p =
        let z : Opened = arrived c (begin_tick a.state given.dt) a.state.outbox given.stimuli in
        let o' : Opens c (reopened c a) x Done z = done_opens c (reopened c a) x r z i came in
        let k : Opens c (reopened c a) y r₂ (open_tick c a.state given) =
        subst (λ (w : Opened). Opens c (reopened c a) y r₂ w) (sym (open_stages c a.state given))
        (opens_next c (reopened c a) x y r₂ z _ o'
        (subst (λ (s : State). Opens c x y r₂ (finished c (advanced_all c (narrow given.dt) (lowered c s)))) (opens_state c (reopened c a) x z o')
        (subst (λ (n : ℕ). Opens c x y r₂ (finished c (advanced_all c n (lowered c x.state)))) en p)))
        in
        (k.areas, k.answer)

-- Parts of the opening, one after the other.
use Prim.Native.Nat.{ℕ, ◌≤◌, ◌<◌}
use mathlib.Core.Path.{◌≡◌, refl, sym, ap, subst, ◌∙◌}
use mathlib.Core.Bool.{Bool, true, false}
use mathlib.Core.List.{List, [], ◌∷◌, ◌++◌, append-nil, append_assoc}
use lib.ListN.{get_or, drop}
use Rattle.schedule.specs.Schedule.{Place}
use Rattle.lists.specs.Lists.{Filed as Answer, NoRoom, Done}
use Rattle.model.specs.Base.{if◌then◌otherwise◌, each}
use Rattle.model.specs.Circuit.{Circuit}
use Rattle.model.specs.State.{Act, State}
use Rattle.model.specs.Opening.{Opened, raised_to, fire, advanced, advance_buffer, advance_clock, advance_timer}
use Rattle.links.specs.Links.{gates_of_word}
use Rattle.links.proofs.Walking.{gates_next, gates_over}
use Rattle.wires.specs.View.{Values}
use Rattle.states.specs.View.{Delays}
use Rattle.units.specs.View.{Units}
use Rattle.units.specs.Raising.{with_lists, raise_into}
use Rattle.areas.specs.Areas.{Contents, together, with_state, with_went}
use Rattle.opening.specs.Opening.{put_to, opened_into, unopened, Opens}
use Rattle.opening.specs.Stages.{put_all, Puts, Advances}
use Rattle.opening.proofs.Raises.{raise_done, raise_full, raise_state, raise_put, put_done, put_full}

-- what y says, after z
abbrev pub after : Opened → Opened → Opened
after z y = record { state = y.state; raises = z.raises ++ y.raises }

-- ---- acts to one list

module _ (c : Circuit) (p : Place) where
  pub puts_none : (u : Units) → Puts c u u Done p []
  unfolding put_all
  puts_none u = record { units = refl; answer = refl }

  pub puts_next : (u v w : Units) (r : Answer) (xs ys : List Act) → Puts c u v Done p xs → Puts c v w r p ys → Puts c u w r p (xs ++ ys)
  puts_next u v w r xs ys a b =
      let e : v.lists ≡ (put_all c p xs u.lists).lists = ap (λ (x : Units). x.lists) a.units in
      let q : put_all c p (xs ++ ys) u.lists ≡ put_all c p ys v.lists =
      put_done c p xs ys u.lists (sym a.answer) ∙ ap (put_all c p ys) (sym e)
      in
      record { units = b.units ∙ (λ j. with_lists (a.units j) (sym q j).lists); answer = b.answer ∙ (λ j. (sym q j).answer) }

  pub puts_full : (u v : Units) (xs ys : List Act) → Puts c u v NoRoom p xs → Puts c u v NoRoom p (xs ++ ys)
  puts_full u v xs ys a =
      let q : put_all c p (xs ++ ys) u.lists ≡ put_all c p xs u.lists = put_full c p xs ys u.lists (sym a.answer) in
      record { units = a.units ∙ (λ j. with_lists u (sym q j).lists); answer = a.answer ∙ (λ j. (sym q j).answer) }

-- ---- parts of the opening

module _ (c : Circuit) where
  pub opens_none : (a : Contents) → Opens c a a Done (unopened a.state)
  unfolding opened_into unopened raise_into
  opens_none a = record { areas = refl; answer = refl }

  pub opens_state : (a b : Contents) (z : Opened) → Opens c a b Done z → b.state ≡ z.state
  unfolding opened_into
  opens_state a b z o = ap (λ (x : Contents). x.state) o.areas ∙ raise_state (put_to c) z.raises a.lists z.state (sym o.answer)

  pub opens_next : (a b d : Contents) (r : Answer) (z y : Opened) → Opens c a b Done z → Opens c b d r y → Opens c a d r (after z y)
  unfolding opened_into
  opens_next a b d r z y o p =
      let e : b.lists ≡ (opened_into c z a.lists).lists = ap (λ (x : Contents). x.lists) o.areas in
      let q : opened_into c (after z y) a.lists ≡ opened_into c y b.lists =
      raise_done (put_to c) z.raises y.raises a.lists z.state y.state (sym o.answer) ∙ ap (opened_into c y) (sym e)
      in
      record { areas = p.areas ∙ (λ j. with_went (o.areas j) (sym q j)); answer = p.answer ∙ (λ j. (sym q j).answer) }

  pub opens_full : (a b : Contents) (z y : Opened) → Opens c a b NoRoom z → Opens c a b NoRoom (after z y)
  unfolding opened_into
  opens_full a b z y o =
      let q : opened_into c (after z y) a.lists ≡ opened_into c z a.lists =
      raise_full (put_to c) z.raises y.raises a.lists z.state y.state (sym o.answer)
      in
      record { areas = o.areas ∙ (λ j. with_went a (sym q j)); answer = o.answer ∙ (λ j. (sym q j).answer) }

  -- acts to one list, raised at the state that there is
  pub opens_puts :
      (v : Values) (u w : Units) (d : Delays) (r : Answer) (p : Place) (acts : List Act) → Puts c u w r p acts →
      Opens c (together v u d) (together v w d) r (record { state = (together v u d).state; raises = raised_to p (together v u d).state acts })
  unfolding opened_into
  opens_puts v u w d r p acts a =
      let s = (together v u d).state in
      let q : raise_into (put_to c) (raised_to p s acts) u.lists s ≡ record { state = s; lists = (put_all c p acts u.lists).lists; answer = (put_all c p acts u.lists).answer } =
      raise_put c p acts u.lists s
      in
      record {
        areas = (λ j. together v (a.units j) d) ∙ (λ j. with_went (together v u d) (sym q j));
        answer = a.answer ∙ (λ j. (sym q j).answer);
      }

  -- a state that changed with nothing raised
  pub opens_from : (a b d : Contents) (s : State) (r : Answer) (z : Opened) → b ≡ with_state a s → Opens c b d r z → Opens c a d r z
  opens_from a b d s r z e o =
      record {
        areas = o.areas ∙ (λ j. with_went (e j) (opened_into c z (e j).lists));
        answer = o.answer ∙ (λ j. (opened_into c z (e j).lists).answer);
      }

  -- a gate moved on, and its Fires are filed
  pub advances_fire :
      (v v' : Values) (u u' : Units) (d d' : Delays) (z : Opened) (p : Place) (g n : ℕ) (r : Answer) → Advances (together v u d) (together v' u d') z p g n →
      Puts c u u' r p (fire n g) → Opens c (together v u d) (together v' u' d') r z
  unfolding opened_into
  advances_fire v v' u u' d d' z p g n r a b =
      let k = put_all c p (fire n g) u.lists in
      let q : opened_into c z u.lists ≡ record { state = z.state; lists = k.lists; answer = k.answer } =
      (λ j. raise_into (put_to c) (a.raises j) u.lists z.state) ∙ raise_put c p (fire n g) u.lists z.state
      in
      record {
        areas =
            (λ j. together v' (b.units j) d') ∙ (λ j. with_went (a.areas j) (record { state = (a.areas j).state; lists = k.lists; answer = k.answer }))
            ∙ (λ j. with_went (together v u d) (sym q j));
        answer = b.answer ∙ (λ j. (sym q j).answer);
      }

-- ---- gates one after the other

-- f only adds to what was raised
abbrev pub Adds : (Opened → ℕ → Opened) → Type 0
Adds f = (z : Opened) (g : ℕ) → f z g ≡ after z (f (unopened z.state) g)

pub each_adds : (f : Opened → ℕ → Opened) → Adds f → (z : Opened) (gs : List ℕ) → each f z gs ≡ after z (each f (unopened z.state) gs)
unfolding each unopened
each_adds f h z [] = λ j. record { state = z.state; raises = sym (append-nil z.raises) j }
each_adds f h z (g ∷ gs) =
    let y : Opened = f (unopened z.state) g in
    let x : Opened = each f (unopened y.state) gs in
    ap (λ (o : Opened). each f o gs) (h z g) ∙ each_adds f h (after z y) gs
    ∙ (λ j. record { state = x.state; raises = append_assoc z.raises y.raises x.raises j })
    ∙ ap (after z) (sym (each_adds f h y gs))

-- a choice between two that do
if_adds : (b : Bool) (z x y x' y' : Opened) → x ≡ after z x' → y ≡ after z y' → (if b then x otherwise y) ≡ after z (if b then x' otherwise y')
unfolding if◌then◌otherwise◌
if_adds true z x y x' y' e h = e
if_adds false z x y x' y' e h = h

pub buffer_adds : (c : Circuit) (dt : ℕ) → Adds (advance_buffer c dt)
unfolding advance_buffer advanced unopened
buffer_adds c dt z g =
    if_adds _ z _ _ _ _ refl (if_adds _ z _ _ _ _ refl (if_adds _ z _ _ _ _ refl (λ j. record { state = z.state; raises = sym (append-nil z.raises) j })))

pub clock_adds : (c : Circuit) → Adds (advance_clock c)
unfolding advance_clock advanced unopened
clock_adds c z g = refl

pub timer_adds : (c : Circuit) → Adds (advance_timer c)
unfolding advance_timer advanced unopened
timer_adds c z g = refl

-- ---- a loop over a word of gates

-- with the gates of d left to do at the areas a, what they come to is what all gates come to at the areas a₀
abbrev pub Leads : Circuit → (Opened → ℕ → Opened) → Contents → List ℕ → Contents → ℕ → Type 0
Leads c f a₀ gs a d =
    (b : Contents) (r : Answer) → Opens c a b r (each f (unopened a.state) (gates_of_word d)) → Opens c a₀ b r (each f (unopened a₀.state) gs)

pub leads_first : (c : Circuit) (f : Opened → ℕ → Opened) (a : Contents) (gs : List ℕ) (d : ℕ) → gates_of_word d ≡ gs → Leads c f a gs a d
leads_first c f a gs d e b r o = subst (λ (k : List ℕ). Opens c a b r (each f (unopened a.state) k)) e o

module _
    (c : Circuit) (f : Opened → ℕ → Opened) (h : Adds f) (a₀ a a₁ : Contents) (gs : List ℕ) (d g k : ℕ) (r : Answer) (l : Leads c f a₀ gs a d)
    (e : g ≡ get_or (gates_of_word d) 0 64)
  where
    -- the gate that is done, and the others after it
    first_then : g < 64 → gates_of_word k ≡ drop 1 (gates_of_word d) →
        each f (unopened a.state) (gates_of_word d)
        ≡ after (f (unopened a.state) g) (each f (unopened (f (unopened a.state) g).state) (gates_of_word k))
    first_then t q = gates_next f (unopened a.state) d g e k t q ∙ each_adds f h (f (unopened a.state) g) (gates_of_word k)

    pub leads_next : g < 64 → gates_of_word k ≡ drop 1 (gates_of_word d) → Opens c a a₁ r (f (unopened a.state) g) → r ≡ Done → Leads c f a₀ gs a₁ k
    leads_next t q o i b x p =
        let y = f (unopened a.state) g in
        let o' : Opens c a a₁ Done y = subst (λ (s : Answer). Opens c a a₁ s y) i o in
        let p' : Opens c a₁ b x (each f (unopened y.state) (gates_of_word k)) =
        subst (λ (s : State). Opens c a₁ b x (each f (unopened s) (gates_of_word k))) (opens_state c a a₁ y o') p
        in
        l b x (subst (λ (z : Opened). Opens c a b x z) (sym (first_then t q)) (opens_next c a a₁ b x y _ o' p'))

    pub leads_full : g < 64 → gates_of_word k ≡ drop 1 (gates_of_word d) → Opens c a a₁ r (f (unopened a.state) g) → r ≡ NoRoom →
        Opens c a₀ a₁ NoRoom (each f (unopened a₀.state) gs)
    leads_full t q o i =
        let y = f (unopened a.state) g in
        let o' : Opens c a a₁ NoRoom y = subst (λ (s : Answer). Opens c a a₁ s y) i o in
        l a₁ NoRoom (subst (λ (z : Opened). Opens c a a₁ NoRoom z) (sym (first_then t q)) (opens_full c a a₁ y _ o'))

pub leads_last : (c : Circuit) (f : Opened → ℕ → Opened) (a₀ a : Contents) (gs : List ℕ) (d g : ℕ) → Leads c f a₀ gs a d → g ≡ get_or (gates_of_word d) 0 64 → 64 ≤ g →
    Opens c a₀ a Done (each f (unopened a₀.state) gs)
leads_last c f a₀ a gs d g l e t = l a Done (subst (λ (z : Opened). Opens c a a Done z) (sym (gates_over f (unopened a.state) d g e t)) (opens_none c a))

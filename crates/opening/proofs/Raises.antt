-- What is raised, filed in parts: a part after a part.
use mathlib.Core.Path.{◌≡◌, refl}
use mathlib.Core.List.{List, [], ◌∷◌, ◌++◌, map}
use Rattle.schedule.specs.Schedule.{Raise, Place, to_pending, When, Filed, full, filed}
use Rattle.lists.specs.Lists.{Filed as Answer, NoRoom, Done}
use Rattle.model.specs.Circuit.{Circuit}
use Rattle.model.specs.State.{Act, State}
use Rattle.model.specs.Opening.{raised_to}
use Rattle.units.specs.declared.Place.TheVariants.{Pending}
use Rattle.units.specs.View.{Lists}
use Rattle.units.specs.Raising.{activate, place_for, Went, raise_into}
use Rattle.opening.specs.Opening.{put_to}
use Rattle.opening.specs.Stages.{Put, put_all}

-- the parts of what an elimination gives
abbrev answer_of : Went → Answer
answer_of w = w.answer

abbrev lists_of : Went → Lists
lists_of w = w.lists

abbrev state_of : Went → State
state_of w = w.state

abbrev put_answer : Put → Answer
put_answer w = w.answer

abbrev put_lists : Put → Lists
put_lists w = w.lists

-- ---- raising in two parts

module _ {P : Type 0} (f : P → Act → Lists → Filed Lists) where
  -- with room for the first part, the second one follows
  pub raise_done :
      (xs ys : List (Raise State Act P)) (l : Lists) (s t : State) → (raise_into f xs l s).answer ≡ Done →
      raise_into f (xs ++ ys) l t ≡ raise_into f ys (raise_into f xs l s).lists t
  unfolding raise_into
  raise_done [] ys l s t h = refl
  raise_done (x ∷ xs) ys l s t h = go (λ k. raise_done xs ys k s t) (f x.place x.act l) h
    where
      go : ((k : Lists) → (raise_into f xs k s).answer ≡ Done → raise_into f (xs ++ ys) k t ≡ raise_into f ys (raise_into f xs k s).lists t) → (q : Filed Lists) →
          (answer_of (elim q [ full ↦ record { state = x.at; lists = l; answer = NoRoom } | filed k ↦ raise_into f xs k s ])) ≡ Done →
          elim q [ full ↦ record { state = x.at; lists = l; answer = NoRoom } | filed k ↦ raise_into f (xs ++ ys) k t ]
          ≡ raise_into f ys ((lists_of (elim q [ full ↦ record { state = x.at; lists = l; answer = NoRoom } | filed k ↦ raise_into f xs k s ]))) t
      go rec full e = cc
      go rec (filed k) e = rec k e

  -- where the first part finds a list full, that is all
  pub raise_full :
      (xs ys : List (Raise State Act P)) (l : Lists) (s t : State) → (raise_into f xs l s).answer ≡ NoRoom → raise_into f (xs ++ ys) l t ≡ raise_into f xs l s
  unfolding raise_into
  raise_full [] ys l s t h = cc
  raise_full (x ∷ xs) ys l s t h = go (λ k. raise_full xs ys k s t) (f x.place x.act l) h
    where
      go : ((k : Lists) → (raise_into f xs k s).answer ≡ NoRoom → raise_into f (xs ++ ys) k t ≡ raise_into f xs k s) → (q : Filed Lists) →
          (answer_of (elim q [ full ↦ record { state = x.at; lists = l; answer = NoRoom } | filed k ↦ raise_into f xs k s ])) ≡ NoRoom →
          ◌≡◌ {A = Went}
          (elim q [ full ↦ record { state = x.at; lists = l; answer = NoRoom } | filed k ↦ raise_into f (xs ++ ys) k t ])
          (elim q [ full ↦ record { state = x.at; lists = l; answer = NoRoom } | filed k ↦ raise_into f xs k s ])
      go rec full e = refl
      go rec (filed k) e = rec k e

  -- with room for all the state is the last one
  pub raise_state : (xs : List (Raise State Act P)) (l : Lists) (s : State) → (raise_into f xs l s).answer ≡ Done → (raise_into f xs l s).state ≡ s
  unfolding raise_into
  raise_state [] l s h = refl
  raise_state (x ∷ xs) l s h = go (λ k. raise_state xs k s) (f x.place x.act l) h
    where
      go : ((k : Lists) → (raise_into f xs k s).answer ≡ Done → (raise_into f xs k s).state ≡ s) → (q : Filed Lists) →
          (answer_of (elim q [ full ↦ record { state = x.at; lists = l; answer = NoRoom } | filed k ↦ raise_into f xs k s ])) ≡ Done →
          (state_of (elim q [ full ↦ record { state = x.at; lists = l; answer = NoRoom } | filed k ↦ raise_into f xs k s ])) ≡ s
      go rec full e = cc
      go rec (filed k) e = rec k e

-- ---- raising to one list

-- raised at one state, that is the state after it, and the rest is as for the acts alone
pub raise_put :
    (c : Circuit) (p : Place) (acts : List Act) (l : Lists) (s : State) →
    raise_into (put_to c) (raised_to p s acts) l s ≡ record { state = s; lists = (put_all c p acts l).lists; answer = (put_all c p acts l).answer }
unfolding raise_into put_all raised_to
raise_put c p [] l s = refl
raise_put c p (a ∷ acts) l s = go (λ k. raise_put c p acts k s) (put_to c p a l)
  where
    go : ((k : Lists) → raise_into (put_to c) (raised_to p s acts) k s ≡ record { state = s; lists = (put_all c p acts k).lists; answer = (put_all c p acts k).answer }) →
        (q : Filed Lists) →
        ◌≡◌ {A = Went}
        (elim q [ full ↦ record { state = s; lists = l; answer = NoRoom } | filed k ↦ raise_into (put_to c) (raised_to p s acts) k s ])
        (record {
          state = s;
          lists = (put_lists (elim q [ full ↦ record { lists = l; answer = NoRoom } | filed k ↦ put_all c p acts k ]));
          answer = (put_answer (elim q [ full ↦ record { lists = l; answer = NoRoom } | filed k ↦ put_all c p acts k ]));
        })
    go rec full = refl
    go rec (filed k) = rec k

-- what settling raises is pending, however it is raised
pub raise_pending :
    (c : Circuit) (rs : List (Raise State Act When)) (l : Lists) (s : State) →
    raise_into (put_to c) (map (λ r. record { at = r.at; act = r.act; place = to_pending }) rs) l s ≡ raise_into (λ p. activate c (place_for p Pending)) rs l s
unfolding raise_into put_to place_for
raise_pending c [] l s = refl
raise_pending c (r ∷ rs) l s = go (λ k. raise_pending c rs k s) (activate c Pending r.act l)
  where
    go : ((k : Lists) → raise_into (put_to c) (map (λ x. record { at = x.at; act = x.act; place = to_pending }) rs) k s ≡ raise_into (λ p. activate c (place_for p Pending)) rs k s) →
        (q : Filed Lists) →
        ◌≡◌ {A = Went}
        (elim q [ full ↦ record { state = r.at; lists = l; answer = NoRoom } | filed k ↦ raise_into (put_to c) (map (λ x. record { at = x.at; act = x.act; place = to_pending }) rs) k s ])
        (elim q [ full ↦ record { state = r.at; lists = l; answer = NoRoom } | filed k ↦ raise_into (λ p. activate c (place_for p Pending)) rs k s ])
    go rec full = refl
    go rec (filed k) = rec k

-- in two parts
pub put_done :
    (c : Circuit) (p : Place) (xs ys : List Act) (l : Lists) → (put_all c p xs l).answer ≡ Done → put_all c p (xs ++ ys) l ≡ put_all c p ys (put_all c p xs l).lists
unfolding put_all
put_done c p [] ys l h = refl
put_done c p (x ∷ xs) ys l h = go (λ k. put_done c p xs ys k) (put_to c p x l) h
  where
    go : ((k : Lists) → (put_all c p xs k).answer ≡ Done → put_all c p (xs ++ ys) k ≡ put_all c p ys (put_all c p xs k).lists) → (q : Filed Lists) →
        (put_answer (elim q [ full ↦ record { lists = l; answer = NoRoom } | filed k ↦ put_all c p xs k ])) ≡ Done →
        elim q [ full ↦ record { lists = l; answer = NoRoom } | filed k ↦ put_all c p (xs ++ ys) k ]
        ≡ put_all c p ys ((put_lists (elim q [ full ↦ record { lists = l; answer = NoRoom } | filed k ↦ put_all c p xs k ])))
    go rec full e = cc
    go rec (filed k) e = rec k e

pub put_full : (c : Circuit) (p : Place) (xs ys : List Act) (l : Lists) → (put_all c p xs l).answer ≡ NoRoom → put_all c p (xs ++ ys) l ≡ put_all c p xs l
unfolding put_all
put_full c p [] ys l h = cc
put_full c p (x ∷ xs) ys l h = go (λ k. put_full c p xs ys k) (put_to c p x l) h
  where
    go : ((k : Lists) → (put_all c p xs k).answer ≡ NoRoom → put_all c p (xs ++ ys) k ≡ put_all c p xs k) → (q : Filed Lists) →
        (put_answer (elim q [ full ↦ record { lists = l; answer = NoRoom } | filed k ↦ put_all c p xs k ])) ≡ NoRoom →
        ◌≡◌ {A = Put}
        (elim q [ full ↦ record { lists = l; answer = NoRoom } | filed k ↦ put_all c p (xs ++ ys) k ])
        (elim q [ full ↦ record { lists = l; answer = NoRoom } | filed k ↦ put_all c p xs k ])
    go rec full e = refl
    go rec (filed k) e = rec k e

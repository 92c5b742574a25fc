-- What the areas' lists do is what the scheduler does: `activate`, and raising one after the other.
use Prim.Native.Nat.{ℕ, ◌<◌}
use mathlib.Core.Path.{◌≡◌, refl, sym, ap, ◌∙◌}
use mathlib.Core.Bool.{Bool, true, false, cond}
use mathlib.Core.List.{List, [], ◌∷◌, ◌++◌, map}
use lib.Dec.{leb, ltb}
use lib.ListN.{length, length-map}
use Rattle.schedule.specs.Schedule.{Raise, When, by_rank as ranked, put_off, Filed, full, filed, room, most_waiting, most_delivered, list_full, Setup, Activation, Place, to_late, to_delivered, to_pending, push, push_all, carries, activate_late, activate_main, activate_open, Raising, raise_on, raise_all}
use Rattle.lists.specs.Lists.{NoRoom}
use Rattle.model.specs.Base.{snoc}
use Rattle.model.specs.Circuit.{Circuit, rank_of_gate}
use Rattle.model.specs.State.{Act, State}
use Rattle.model.specs.Unit.{World, state≔, raises_in}
use Rattle.units.specs.declared.Place.TheVariants.{Late, After}
use Rattle.units.specs.View.{Lists}
use Rattle.units.specs.Raising.{late≔, delivered≔, pending≔, carried≔, by_rank, all_by_rank, activate, place_for, deliver, Went, raise_into}
use Rattle.units.specs.Lent.{carry}
use Rattle.units.proofs.Places.{put_off_carried}
use Rattle.opening.specs.Opening.{put_to}
use Rattle.unit.specs.Unit.{stop_of}
use Rattle.passes.specs.Waiting.{bare, waiting, for_late, for_main, for_both}

-- what is filed, seen through h
abbrev pub through : {Q R : Type 0} → (Q → R) → Filed Q → Filed R
through h full = full
through h (filed q) = filed (h q)

map_snoc : {A B : Type 0} (f : A → B) (l : List A) (a : A) → map f (snoc l a) ≡ map f l ++ (f a ∷ [])
unfolding snoc
map_snoc f [] a = refl
map_snoc f (x ∷ l) a = ap (λ (r : List _). f x ∷ r) (map_snoc f l a)

module _ (c : Circuit) where
  abbrev S : Setup
  S = bare c

  abbrev E : Type 0
  E = Activation S

  abbrev w : Act → E
  w = waiting c

  room_through : {Q : Type 0} (h : Lists → Q) (l : List Act) (most : ℕ) (k : Lists) → room (map w l) most (h k) ≡ through h (room l most k)
  room_through h l most k = rw length-map (go (ltb (length l) most))
    where
      go : (t : Bool) → cond t (filed (h k)) full ≡ through h (cond t (filed k) full)
      go true = refl
      go false = refl

  cond_through : {Q : Type 0} (h : Lists → Q) (t : Bool) (x y : Filed Lists) {x₀ y₀ : Filed Q} → x₀ ≡ through h x → y₀ ≡ through h y → cond t x₀ y₀ ≡ through h (cond t x y)
  cond_through h true x y i j = i
  cond_through h false x y i j = j

  -- ---- the lists

  pub push_by_rank : (a : Act) (l : List Act) → push S (w a) (map w l) ≡ map w (by_rank c a l)
  unfolding push by_rank
  push_by_rank a [] = refl
  push_by_rank a (b ∷ l) = go (leb (rank_of_gate c b.gate) (rank_of_gate c a.gate)) (push_by_rank a l)
    where
      go :
          (t : Bool) → push S (w a) (map w l) ≡ map w (by_rank c a l) →
          cond t (w b ∷ push S (w a) (map w l)) (w a ∷ w b ∷ map w l) ≡ map w (cond t (b ∷ by_rank c a l) (a ∷ b ∷ l))
      go true h = ap (λ (r : List E). w b ∷ r) h
      go false h = refl

  pub push_all_by_rank : (as₁ l : List Act) → push_all S (map w as₁) (map w l) ≡ map w (all_by_rank c as₁ l)
  unfolding push_all all_by_rank
  push_all_by_rank [] l = refl
  push_all_by_rank (a ∷ as₁) l = ap (push_all S (map w as₁)) (push_by_rank a l) ∙ push_all_by_rank as₁ (by_rank c a l)

  -- ---- `activate`

  pub late_files : (u : E) (p : When) (a : Act) (l : Lists) → activate_late S u p (w a) (for_late c l) ≡ through (for_late c) (activate c (place_for p Late) a l)
  unfolding activate_late activate place_for
  late_files u p a l =
      ap (λ (x : List E). room (map w l.late) most_waiting (record { late = x; delivered = map w l.delivered })) (push_by_rank a l.late)
      ∙ room_through (for_late c) l.late most_waiting (late≔ l (by_rank c a l.late))

  carry_files : (a : Act) (l : Lists) → room (map w l.carried) most_waiting (record { pending = map w l.pending; carried = map w l.carried ++ (w a ∷ []) }) ≡ through (for_main c) (carry a l)
  carry_files a l =
      ap (λ (x : List E). room (map w l.carried) most_waiting (record { pending = map w l.pending; carried = x })) (sym (map_snoc w l.carried a))
      ∙ room_through (for_main c) l.carried most_waiting (carried≔ l (snoc l.carried a))

  -- where every rank has 16 bits
  pub main_files :
      ((g : ℕ) → rank_of_gate c g < 65536) → (u : E) (p : When) (a : Act) (l : Lists) →
      activate_main S u p (w a) (for_main c l) ≡ through (for_main c) (activate c (place_for p (After (rank_of_gate c u.act.gate))) a l)
  unfolding activate_main activate carries place_for
  main_files small u put_off a l = carry_files a l ∙ ap (through (for_main c)) (sym (put_off_carried c (rank_of_gate c u.act.gate) a l (small a.gate)))
  main_files small u ranked a l =
      cond_through (for_main c) (leb (rank_of_gate c a.gate) (rank_of_gate c u.act.gate)) _ _
      (carry_files a l)
      (ap (λ (x : List E). room (map w l.pending) most_waiting (record { pending = x; carried = map w l.carried })) (push_by_rank a l.pending)
      ∙ room_through (for_main c) l.pending most_waiting (pending≔ l (by_rank c a l.pending)))

  pub open_files : (p : Place) (a : Act) (l : Lists) → activate_open S p (w a) (for_both c l) ≡ through (for_both c) (put_to c p a l)
  unfolding activate_open activate deliver put_to
  open_files to_late a l =
      ap (λ (x : List E). room (map w l.late) most_waiting (record { lateq = record { late = x; delivered = map w l.delivered }; pending = map w l.pending })) (push_by_rank a l.late)
      ∙ room_through (for_both c) l.late most_waiting (late≔ l (by_rank c a l.late))
  open_files to_delivered a l =
      ap (λ (x : List E). room (map w l.delivered) most_delivered (record { lateq = record { late = map w l.late; delivered = x }; pending = map w l.pending })) (sym (map_snoc w l.delivered a))
      ∙ room_through (for_both c) l.delivered most_delivered (delivered≔ l (snoc l.delivered a))
  open_files to_pending a l =
      ap (λ (x : List E). room (map w l.pending) most_waiting (record { lateq = for_late c l; pending = x })) (push_by_rank a l.pending)
      ∙ room_through (for_both c) l.pending most_waiting (pending≔ l (by_rank c a l.pending))

  -- ---- raising: the queue, the world and the stop that the scheduler comes to
  module _ {P Q : Type 0} (h : Lists → Q) (there : P → E → Q → Filed Q) (here : P → Act → Lists → Filed Lists) (files : (p : P) (a : Act) (l : Lists) → there p (w a) (h l) ≡ through h (here p a l)) (v : World) (left : ℕ) where
    -- what raising came to
    pub record Raised (k : Raising S Q) (z : Went) : Type 0 where
      pub queue : k.queue ≡ h z.lists
      pub world : k.world ≡ state≔ v left z.state
      pub stop : k.stop ≡ stop_of z.answer

    pub raised_as : (rs : List (Raise State Act P)) (l : Lists) (s : State)
        → Raised (raise_all S there (raises_in v left rs) tt (h l) (state≔ v left s) 0) (raise_into here rs l s)
    unfolding raise_all raise_into raises_in stop_of
    raised_as [] l s = record { queue = refl; world = refl; stop = refl }
    raised_as (r ∷ rs) l s = rw (files r.place r.act l) (go (λ k. raised_as rs k s) (here r.place r.act l))
      where
        go :
            ((k : Lists) → Raised (raise_all S there (raises_in v left rs) tt (h k) (state≔ v left s) 0) (raise_into here rs k s)) → (f : Filed Lists) →
            Raised
            (raise_on S (through h f) (w r.act) (record { raised = []; queue = h l; next = tt; world = state≔ v left r.at; stop = list_full }) (λ q. raise_all S there (raises_in v left rs) tt q (state≔ v left s) 0))
            (elim f [ full ↦ record { state = r.at; lists = l; answer = NoRoom } | filed k ↦ raise_into here rs k s ])
        go rest full = record { queue = refl; world = refl; stop = refl }
        go rest (filed k) = let i = rest k in record { queue = i.queue; world = i.world; stop = i.stop }

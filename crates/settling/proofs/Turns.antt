-- The rounds of settling, one after the other: one law for each way out of a function.
use Prim.Native.Nat.{ℕ, zero, suc, ◌+◌, ◌-◌, ◌*◌, ◌≤◌, ◌<◌}
use mathlib.Core.Path.{◌≡◌, refl, sym, ap, ap₂, subst, ◌∙◌}
use mathlib.Core.Bool.{Bool, true, false}
use mathlib.Core.List.{List, [], ◌∷◌, ◌++◌}
use mathlib.Core.Option.{Option, none, some}
use native.Mathlib.Nat.{mul-le-mul}
use native.Mathlib.Omega.{arith}
use native.Mathlib.Numerals.{add-one}
use lib.ListN.{length, get_or, drop_of_length-le}
use Rattle.schedule.specs.Schedule.{When, by_rank, put_off}
use Rattle.std.specs.Prelude.{Ok, Err}
use Rattle.lists.specs.Lists.{Filed as Answer, NoRoom, Done as Room}
use Rattle.model.specs.Base.{if◌then◌otherwise◌}
use Rattle.model.specs.Circuit.{Circuit}
use Rattle.model.specs.State.{State, Wires, wires≔}
use Rattle.model.specs.Wires.{refresh_all}
use Rattle.model.specs.Settle.{Settled, calm, taken, when_checked, check, check_on, most_checks, settle}
use Rattle.std.specs.Prelude.{Option as Perhaps, Some, None}
use Rattle.words.specs.Options.{option_of}
use Rattle.wires.specs.declared.checks.Check.{Check}
use Rattle.wires.specs.View.{Values, with_wires}
use Rattle.wires.specs.Checks.{oldest, oldest_check, oldest_taken}
use Rattle.states.specs.View.{Delays}
use Rattle.units.specs.declared.Place.{Place}
use Rattle.units.specs.declared.Place.TheVariants.{Late, Pending, After}
use Rattle.units.specs.View.{act_of, Lists, Units}
use Rattle.units.specs.Raising.{with_lists, activate, most_rank, place_for, answer, lists_after, Went, raise_into}
use Rattle.units.proofs.Places.{ranked_for}
use Rattle.areas.specs.Areas.{Contents, together, with_went}
use Rattle.settling.specs.declared.Raised.{Raised}
use Rattle.settling.specs.declared.Raised.TheVariants.{Nothing as NoRaise, Entry, MayWait}
use Rattle.settling.specs.Settling.{settled, filed_into}
use Rattle.settling.specs.Rounds.{Acts, Round, Idle, Done, goes_on, round_of, answer_of, round_answer, after_round}
use Rattle.settling.proofs.Rounds.{raised_on, raised_full, raised_one, first_on, checked_now, raised_before}

-- a round that found a list full
abbrev Stops : Round
Stops = Err (record {})

-- ---- one round, then the others

-- what follows where there was room
abbrev then_on : Went → (State → Lists → Went) → Went
then_on w f = elim w.answer [ Err _ ↦ w | Ok _ ↦ f w.state w.lists ]

-- what follows a round
abbrev rest_of : State → Lists → (State → Lists → Went) → Option Went → Went
rest_of s l f o = elim o [ none ↦ record { state = s; lists = l; answer = Room } | some w ↦ then_on w f ]

module _ (c : Circuit) (to : Place) where
  -- what was raised first is filed first
  filed_first : (n : ℕ) (z : Settled) (l : Lists) → filed_into c to (check_on c n z) l ≡ then_on (filed_into c to z l) (goes_on c to n)
  unfolding filed_into goes_on
  filed_first n z l =
      ap (λ (y : Settled). filed_into c to y l) (raised_before c n z.state z.raises) ∙ by_answer (filed_into c to z l).answer refl
    where
      by_answer :
          (a : Answer) → (filed_into c to z l).answer ≡ a →
          raise_into (λ p. activate c (place_for p to)) (z.raises ++ (check_on c n (calm z.state)).raises) l (check_on c n (calm z.state)).state
          ≡ (elim a [ Err _ ↦ filed_into c to z l | Ok _ ↦ goes_on c to n (filed_into c to z l).state (filed_into c to z l).lists ])
      by_answer (Err x) h = raised_full (λ p. activate c (place_for p to)) z.raises (check_on c n (calm z.state)).raises l z.state (check_on c n (calm z.state)).state h
      by_answer (Ok x) h =
          let p = raised_on (λ p. activate c (place_for p to)) z.raises (check_on c n (calm z.state)).raises l z.state (check_on c n (calm z.state)).state h in
          p.1 ∙ ap (λ (t : State). goes_on c to n t (filed_into c to z l).lists) (sym p.0)

  -- a round, then the others
  pub round_first : (n : ℕ) (s : State) (l : Lists) → goes_on c to (suc n) s l ≡ rest_of s l (goes_on c to n) (round_of c to s l)
  unfolding goes_on round_of oldest oldest_taken check_on calm filed_into raise_into
  round_first n s l = go s.wires.to_check
    where
      go :
          (x : List ℕ) →
          filed_into c to (first_on x (calm s) (λ i is. check_on c n (record { state = (checked_now c s i is).state; raises = [] ++ (checked_now c s i is).raises }))) l
          ≡ rest_of s l (goes_on c to n)
          (elim (first_on x none (λ i is. some i)) [
            | none ↦ none
            | some i ↦ some (filed_into c to (check c (when_checked s.wires i) (wires≔ s (first_on x s.wires (taken s.wires))) i) l)
          ])
      go [] = refl
      go (i ∷ is) = filed_first n (record { state = (checked_now c s i is).state; raises = [] ++ (checked_now c s i is).raises }) l

-- ---- what a round comes to

-- the answer, by that of the list
pub filed_full : (a b : Answer) → a ≡ b → a ≡ NoRoom → Stops ≡ answer_of b
unfolding answer_of
filed_full a b e h = ap answer_of (sym h ∙ e)

pub filed_done : (a b : Answer) → a ≡ b → a ≡ Room → Done ≡ answer_of b
unfolding answer_of
filed_done a b e h = ap answer_of (sym h ∙ e)

-- where what is put off is filed, by the pass
pub puts_late : (to : Place) → to ≡ Late → Late ≡ place_for put_off to
unfolding place_for
puts_late to h = rw h refl

pub puts_pending : (to : Place) → to ≡ Pending → Pending ≡ place_for put_off to
unfolding place_for
puts_pending to h = rw h refl

pub puts_after : (to : Place) (reached : ℕ) → to ≡ After reached → After most_rank ≡ place_for put_off to
unfolding place_for
puts_after to reached h = rw h refl

-- nothing is taken where nothing waits
none_taken : (w : Wires) → none ≡ oldest w → oldest_taken w ≡ w
unfolding oldest oldest_taken
none_taken w e = go w.to_check e
  where
    go : (x : List ℕ) → ◌≡◌ {A = Option ℕ} none (first_on x none (λ i is. some i)) → first_on x w (taken w) ≡ w
    go [] h = refl
    go (i ∷ is) h = cc

-- what a check taken says of the input that waits longest
check_taken :
    (w : Wires) (i : ℕ) (late : Bool) → some (record { input = i; late = late }) ≡ oldest_check w → (some i ≡ oldest w) × (late ≡ get_or w.late_checks i false)
unfolding oldest_check
check_taken w i late e = go (oldest w) e
  where
    go :
        (x : Option ℕ) →
        ◌≡◌ {A = Option Check} (some (record { input = i; late = late })) (elim x [ none ↦ none | some j ↦ some (record { input = j; late = get_or w.late_checks j false }) ]) →
        (some i ≡ x) × (late ≡ get_or w.late_checks i false)
    go none h = cc
    go (some j) h =
        let q : ◌≡◌ {A = Check} (record { input = i; late = late }) (record { input = j; late = get_or w.late_checks j false }) = cc in
        let p : i ≡ j = ap (λ (k : Check). k.input) q in
        (ap (λ (k : ℕ). some k) p, ap (λ (k : Check). k.late) q ∙ ap (λ (k : ℕ). get_or w.late_checks k false) (sym p))

no_check : (w : Wires) → none ≡ oldest_check w → none ≡ oldest w
unfolding oldest_check
no_check w e = go (oldest w) e
  where
    go :
        (x : Option ℕ) →
        ◌≡◌ {A = Option Check} none (elim x [ none ↦ none | some j ↦ some (record { input = j; late = get_or w.late_checks j false }) ]) → none ≡ x
    go none h = refl
    go (some j) h = cc

-- one round, by what waits and what the check raises
module _ (c : Circuit) (to : Place) (v v₁ : Values) (u : Units) (d : Delays) (n : Perhaps Check) (en : option_of n ≡ oldest_check v.wires) (ev : v₁ ≡ with_wires v (oldest_taken v.wires)) where
  pub next_idle :
      n ≡ None →
      (Idle ≡ round_answer (round_of c to (together v u d).state u.lists)) × (together v₁ u d ≡ after_round (together v u d) (round_of c to (together v u d).state u.lists))
  unfolding round_of round_answer after_round
  next_idle e =
      let q : none ≡ oldest v.wires = no_check v.wires (ap option_of (sym e) ∙ en) in
      let p : round_of c to (together v u d).state u.lists ≡ none = rw (← q, round_of) in
      (ap round_answer (sym p), ap (λ (y : Values). together y u d) ev ∙ ap (λ (w : Wires). together (with_wires v w) u d) (none_taken v.wires q) ∙ ap (after_round (together v u d)) (sym p))

  module _ (i : ℕ) (late : Bool) (v₂ : Values) (e : Delays) (r : Raised) (ei : n ≡ Some (record { input = i; late = late })) (ec : Acts c v₁ d v₂ e (λ when s. check c when s i) r) where
    -- what the check leads to
    abbrev found : Settled
    found = check c (when_checked v.wires i) (wires≔ (together v u d).state (oldest_taken v.wires)) i

    -- in the state in which it is made
    acts : Acts c (with_wires v (oldest_taken v.wires)) d v₂ e (λ when s. check c when s i) r
    acts = subst (λ (y : Values). Acts c y d v₂ e (λ when s. check c when s i) r) ev ec

    -- so the round comes to what it raises, filed
    waited : (some i ≡ oldest v.wires) × (late ≡ get_or v.wires.late_checks i false)
    waited = check_taken v.wires i late (ap option_of (sym ei) ∙ en)

    round_is : round_of c to (together v u d).state u.lists ≡ some (filed_into c to found u.lists)
    unfolding round_of
    round_is = rw (← waited.0, round_of)

    pub next_calm :
        r ≡ NoRaise →
        (Done ≡ round_answer (round_of c to (together v u d).state u.lists)) × (together v₂ u e ≡ after_round (together v u d) (round_of c to (together v u d).state u.lists))
    unfolding filed_into raise_into settled round_answer answer_of after_round wires≔
    next_calm er =
        let p : round_of c to (together v u d).state u.lists ≡ some (record { state = found.state; lists = u.lists; answer = Room }) =
        round_is ∙ ap (λ (z : Settled). some (filed_into c to z u.lists)) (sym (acts u (when_checked v.wires i)).1 ∙ ap (settled c (when_checked v.wires i) found.state) er) in
        (ap round_answer (sym p), (acts u (when_checked v.wires i)).0 ∙ ap (after_round (together v u d)) (sym p))

    -- what filing x there comes to
    abbrev went_to : ℕ → Place → Went
    went_to x y =
        let k = activate c y (act_of c x) u.lists in
        record { state = found.state; lists = lists_after u.lists k; answer = answer k }

    -- x, raised so, is filed where that goes
    filed_so :
        (x : ℕ) (p : When) (y : Place) (q : Round) (u₂ : Units) →
        settled c (when_checked v.wires i) found.state r ≡ record { state = found.state; raises = record { at = found.state; act = act_of c x; place = p } ∷ [] } → place_for p to ≡ y →
        (q ≡ answer_of (answer (activate c y (act_of c x) u.lists))) × (u₂ ≡ with_lists u (lists_after u.lists (activate c y (act_of c x) u.lists))) →
        (q ≡ round_answer (round_of c to (together v u d).state u.lists)) × (together v₂ u₂ e ≡ after_round (together v u d) (round_of c to (together v u d).state u.lists))
    unfolding filed_into round_answer after_round wires≔
    filed_so x p y q u₂ er ey eq =
        let k = activate c y (act_of c x) u.lists in
        let h : round_of c to (together v u d).state u.lists ≡ some (went_to x y) =
        round_is
        ∙ ap (λ (z : Settled). some (filed_into c to z u.lists)) (sym (acts u (when_checked v.wires i)).1 ∙ er)
        ∙ ap (λ (w : Went). some w) (raised_one (λ p. activate c (place_for p to)) p (act_of c x) u.lists found.state)
        ∙ ap (λ (y : Place). some (went_to x y)) ey in (
          eq.0 ∙ ap round_answer (sym h),
          ap (λ (y : Units). together v₂ y e) eq.1
              ∙ (acts (with_lists u (lists_after u.lists k)) (when_checked v.wires i)).0
              ∙ ap (after_round (together v u d)) (sym h),
        )

    pub next_entry :
        (x : ℕ) (q : Round) (u₂ : Units) → r ≡ Entry x →
        (q ≡ answer_of (answer (activate c to (act_of c x) u.lists))) × (u₂ ≡ with_lists u (lists_after u.lists (activate c to (act_of c x) u.lists))) →
        (q ≡ round_answer (round_of c to (together v u d).state u.lists)) × (together v₂ u₂ e ≡ after_round (together v u d) (round_of c to (together v u d).state u.lists))
    unfolding settled
    next_entry x q u₂ er = filed_so x by_rank to q u₂ (ap (settled c (when_checked v.wires i) found.state) er) (ranked_for to)

    -- how it raises what may wait, by its mark
    raises_so : (if late then put_off otherwise by_rank) ≡ when_checked v.wires i
    unfolding when_checked
    raises_so = ap (λ (b : Bool). if b then put_off otherwise by_rank) waited.1

    pub next_put_off :
        (x : ℕ) (y : Place) (q : Round) (u₂ : Units) → r ≡ MayWait x → late ≡ true → y ≡ place_for put_off to →
        (q ≡ answer_of (answer (activate c y (act_of c x) u.lists))) × (u₂ ≡ with_lists u (lists_after u.lists (activate c y (act_of c x) u.lists))) →
        (q ≡ round_answer (round_of c to (together v u d).state u.lists)) × (together v₂ u₂ e ≡ after_round (together v u d) (round_of c to (together v u d).state u.lists))
    unfolding settled if◌then◌otherwise◌
    next_put_off x y q u₂ er h ey =
        let p : put_off ≡ when_checked v.wires i = ap (λ (b : Bool). if b then put_off otherwise by_rank) (sym h) ∙ raises_so in
        filed_so x (when_checked v.wires i) y q u₂ (ap (settled c (when_checked v.wires i) found.state) er) (ap (λ (w : When). place_for w to) (sym p) ∙ sym ey)

    pub next_ranked :
        (x : ℕ) (q : Round) (u₂ : Units) → r ≡ MayWait x → late ≡ false →
        (q ≡ answer_of (answer (activate c to (act_of c x) u.lists))) × (u₂ ≡ with_lists u (lists_after u.lists (activate c to (act_of c x) u.lists))) →
        (q ≡ round_answer (round_of c to (together v u d).state u.lists)) × (together v₂ u₂ e ≡ after_round (together v u d) (round_of c to (together v u d).state u.lists))
    unfolding settled if◌then◌otherwise◌
    next_ranked x q u₂ er h =
        let p : by_rank ≡ when_checked v.wires i = ap (λ (b : Bool). if b then put_off otherwise by_rank) (sym h) ∙ raises_so in
        filed_so x (when_checked v.wires i) to q u₂ (ap (settled c (when_checked v.wires i) found.state) er) (ap (λ (w : When). place_for w to) (sym p) ∙ ranked_for to)

-- ---- one turn of the loop

-- the three answers differ
idle_not_done : {A : Type 0} → ◌≡◌ {A = Round} Idle Done → A
idle_not_done h = let z : ◌≡◌ {A = ℕ} 0 1 = cc in absurd (omega (arith, z))

idle_not_full : {A : Type 0} → ◌≡◌ {A = Round} Idle Stops → A
idle_not_full h = let z : ◌≡◌ {A = ℕ} 0 1 = cc in absurd (omega (arith, z))

done_not_full : {A : Type 0} → ◌≡◌ {A = Round} Done Stops → A
done_not_full h = let z : ◌≡◌ {A = ℕ} 0 1 = cc in absurd (omega (arith, z))

module _ (c : Circuit) (to : Place) (a b : Contents) (x : Round)
    (ex : (x ≡ round_answer (round_of c to a.state a.lists)) × (b ≡ after_round a (round_of c to a.state a.lists))) where
  -- what is left of an area's rounds
  abbrev left : ℕ → Contents → Went
  left k y = goes_on c to k y.state y.lists

  -- of which this round is the first
  one_more : (k : ℕ) → 0 < k → left k a ≡ rest_of a.state a.lists (goes_on c to (k - 1)) (round_of c to a.state a.lists)
  one_more zero h = absurd (omega (arith, h))
  one_more (suc j) h = let q : suc j - 1 ≡ j = omega arith in rw q (round_first c to j a.state a.lists)

  pub turn_idle : (k : ℕ) → 0 < k → x ≡ Idle → (b ≡ with_went a (left k a)) × (Room ≡ (left k a).answer)
  unfolding round_answer after_round answer_of
  turn_idle k h e = go (round_of c to a.state a.lists) (sym e ∙ ex.0) ex.1 (one_more k h)
    where
      go :
          (o : Option Went) → Idle ≡ round_answer o → b ≡ after_round a o → left k a ≡ rest_of a.state a.lists (goes_on c to (k - 1)) o →
          (b ≡ with_went a (left k a)) × (Room ≡ (left k a).answer)
      go none f g p = (g ∙ ap (with_went a) (sym p), ap (λ (w : Went). w.answer) (sym p))
      go (some w) f g p = no w.answer f
        where
          no : {A : Type 0} (y : Answer) → Idle ≡ answer_of y → A
          no (Err x) q = idle_not_full q
          no (Ok x) q = idle_not_done q

  pub turn_full : (k : ℕ) → 0 < k → x ≡ Stops → (b ≡ with_went a (left k a)) × (NoRoom ≡ (left k a).answer)
  unfolding round_answer after_round answer_of
  turn_full k h e = go (round_of c to a.state a.lists) (sym e ∙ ex.0) ex.1 (one_more k h)
    where
      by : (w : Went) (y : Answer) → w.answer ≡ y → Stops ≡ answer_of y → b ≡ with_went a w →
          left k a ≡ (elim y [ Err _ ↦ w | Ok _ ↦ goes_on c to (k - 1) w.state w.lists ]) → (b ≡ with_went a (left k a)) × (NoRoom ≡ (left k a).answer)
      by w (Err x) m f g p = (g ∙ ap (with_went a) (sym p), sym m ∙ ap (λ (w : Went). w.answer) (sym p))
      by w (Ok x) m f g p = done_not_full (sym f)

      go :
          (o : Option Went) → Stops ≡ round_answer o → b ≡ after_round a o → left k a ≡ rest_of a.state a.lists (goes_on c to (k - 1)) o →
          (b ≡ with_went a (left k a)) × (NoRoom ≡ (left k a).answer)
      go none f g p = idle_not_full (sym f)
      go (some w) f g p = by w w.answer refl f g p

  pub turn_done :
      (k : ℕ) → 0 < k → x ≡ Done → (with_went b (left (k - 1) b) ≡ with_went a (left k a)) × ((left (k - 1) b).answer ≡ (left k a).answer)
  unfolding round_answer after_round answer_of
  turn_done k h e = go (round_of c to a.state a.lists) (sym e ∙ ex.0) ex.1 (one_more k h)
    where
      by : (w : Went) (y : Answer) → w.answer ≡ y → Done ≡ answer_of y → b ≡ with_went a w →
          left k a ≡ (elim y [ Err _ ↦ w | Ok _ ↦ goes_on c to (k - 1) w.state w.lists ]) →
          (with_went b (left (k - 1) b) ≡ with_went a (left k a)) × ((left (k - 1) b).answer ≡ (left k a).answer)
      by w (Err x) m f g p = done_not_full f
      by w (Ok x) m f g p = (
        ap (λ (y : Contents). with_went y (left (k - 1) y)) g ∙ ap (with_went a) (sym p),
        ap (λ (y : Contents). (left (k - 1) y).answer) g ∙ ap (λ (w : Went). w.answer) (sym p),
      )

      go :
          (o : Option Went) → Done ≡ round_answer o → b ≡ after_round a o → left k a ≡ rest_of a.state a.lists (goes_on c to (k - 1)) o →
          (with_went b (left (k - 1) b) ≡ with_went a (left k a)) × ((left (k - 1) b).answer ≡ (left k a).answer)
      go none f g p = idle_not_done (sym f)
      go (some w) f g p = by w w.answer refl f g p

-- ---- the loop

-- what is left of the rounds leads to what all of them lead to
abbrev pub Left : Circuit → Place → ℕ → Contents → ℕ → Contents → Type 0
Left c to k a n b =
    (with_went a (goes_on c to k a.state a.lists) ≡ with_went b (goes_on c to n b.state b.lists))
    × ((goes_on c to k a.state a.lists).answer ≡ (goes_on c to n b.state b.lists).answer)

module _ (c : Circuit) (to : Place) (a b z : Contents) (x : Round) (k n : ℕ) (h : 0 < k) (i : Left c to k a n z)
    (ex : (x ≡ round_answer (round_of c to a.state a.lists)) × (b ≡ after_round a (round_of c to a.state a.lists))) where
  pub left_idle : (m : Bool) → x ≡ Ok m → m ≡ false → (b ≡ with_went z (goes_on c to n z.state z.lists)) × (Room ≡ (goes_on c to n z.state z.lists).answer)
  left_idle m f g = let t = turn_idle c to a b x ex k h (f ∙ ap (λ (y : Bool). Ok y) g) in (t.0 ∙ i.0, t.1 ∙ i.1)

  pub left_full : x ≡ Stops → (b ≡ with_went z (goes_on c to n z.state z.lists)) × (NoRoom ≡ (goes_on c to n z.state z.lists).answer)
  left_full e = let t = turn_full c to a b x ex k h e in (t.0 ∙ i.0, t.1 ∙ i.1)

  pub left_next : (m : Bool) → x ≡ Ok m → m ≡ true → (j : ℕ) → j + 1 ≡ k → Left c to j b n z
  left_next m f g j q =
      let t = turn_done c to a b x ex k h (f ∙ ap (λ (y : Bool). Ok y) g) in
      let p : k - 1 ≡ j = omega arith in
      subst (λ (y : ℕ). Left c to y b n z) p (t.0 ∙ i.0, t.1 ∙ i.1)

pub left_none :
    (c : Circuit) (to : Place) (a z : Contents) (k n : ℕ) → k ≤ 0 → Left c to k a n z →
    (a ≡ with_went z (goes_on c to n z.state z.lists)) × (Room ≡ (goes_on c to n z.state z.lists).answer)
unfolding goes_on filed_into check_on raise_into calm
left_none c to a z zero n h i = i
left_none c to a z (suc k) n h i = absurd (omega (arith, h))

-- ---- settling

-- how many rounds there are at the most
pub rounds_few : (i o : ℕ) → i ≤ 640 → o ≤ 576 → (i + 1) * (o + 1) ≤ 641 * 577
rounds_few i o h k = let a : i + 1 ≤ 641 = omega arith in let b : o + 1 ≤ 577 = omega arith in mul-le-mul a b

-- all of them, by the counts of inputs and outputs
pub all_checked :
    (c : Circuit) (to : Place) (a b : Contents) (r : Answer) (i o : ℕ) → (i ≡ length c.pins) × (i ≤ 640) → (o ≡ length c.outputs) × (o ≤ 576) →
    (b ≡ with_went a (goes_on c to ((i + 1) * (o + 1)) a.state a.lists)) × (r ≡ (goes_on c to ((i + 1) * (o + 1)) a.state a.lists).answer) →
    (b ≡ with_went a (goes_on c to (most_checks c) a.state a.lists)) × (r ≡ (goes_on c to (most_checks c) a.state a.lists).answer)
all_checked c to a b r i o ei eo h =
    let q : (i + 1) * (o + 1) ≡ most_checks c = ap₂ (λ (x y : ℕ). x * y) (add-one i ∙ ap suc ei.0) (add-one o ∙ ap suc eo.0) in (
      h.0 ∙ ap (λ (k : ℕ). with_went a (goes_on c to k a.state a.lists)) q,
      h.1 ∙ ap (λ (k : ℕ). (goes_on c to k a.state a.lists).answer) q,
    )

-- a round where nothing waits
none_waits :
    (c : Circuit) (to : Place) (a : Contents) → a.state.wires.to_check ≡ [] →
    (Idle ≡ round_answer (round_of c to a.state a.lists)) × (a ≡ after_round a (round_of c to a.state a.lists))
unfolding round_of round_answer after_round oldest
none_waits c to a e =
    let p : round_of c to a.state a.lists ≡ none = rw (e, round_of) in (ap round_answer (sym p), ap (after_round a) (sym p))

-- settling, by what is refreshed first
module _ (c : Circuit) (to : Place) (v v₁ : Values) (u : Units) (d : Delays) (ev : v₁ ≡ with_wires v (refresh_all c v.wires)) where
  -- and all that waits is checked
  pub settled_all :
      (b : Contents) (r : Answer) →
      (b ≡ with_went (together v₁ u d) (goes_on c to (most_checks c) (together v₁ u d).state u.lists))
      × (r ≡ (goes_on c to (most_checks c) (together v₁ u d).state u.lists).answer) →
      (b ≡ with_went (together v u d) (filed_into c to (settle c (together v u d).state) u.lists)) × (r ≡ (filed_into c to (settle c (together v u d).state) u.lists).answer)
  unfolding settle goes_on wires≔
  settled_all b r h = (
    h.0 ∙ ap (λ (y : Values). with_went (together y u d) (goes_on c to (most_checks c) (together y u d).state u.lists)) ev,
    h.1 ∙ ap (λ (y : Values). (goes_on c to (most_checks c) (together y u d).state u.lists).answer) ev,
  )

  -- or nothing waits
  pub settled_none :
      (n : ℕ) → n ≡ length v₁.wires.to_check → n ≡ 0 →
      (together v₁ u d ≡ with_went (together v u d) (filed_into c to (settle c (together v u d).state) u.lists))
      × (Room ≡ (filed_into c to (settle c (together v u d).state) u.lists).answer)
  settled_none n en z =
      let e : v₁.wires.to_check ≡ [] = drop_of_length-le v₁.wires.to_check {i = 0} (omega (arith, en, z)) in
      let i : 1 ≤ suc (length c.pins) = omega arith in
      let o : 1 ≤ suc (length c.outputs) = omega arith in
      let k : 1 * 1 ≤ most_checks c = mul-le-mul i o in
      settled_all (together v₁ u d) Room
      (turn_idle c to (together v₁ u d) (together v₁ u d) Idle (none_waits c to (together v₁ u d) e) (most_checks c) (omega (arith, k)) refl)

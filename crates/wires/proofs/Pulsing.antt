-- Pulses: raised, ended, and lowered by the words that say which are up; one law for each way out of a function.
use Rattle.std.proofs.Common.{◌≡◌, ℕ, zero, suc, ◌+◌, ◌*◌, ◌/◌, ◌%◌, ◌^◌, ◌<◌, ◌≤◌, Bool, true, false, not, ◌&&◌, ltb, leb, List, [], ◌∷◌, length, get_or, take, set, sym, refl, ap, ◌∙◌, ap₂, arith, length-take, get_or-take, ne_eqb}
use lib.Bits.{bit_or, bit_xor}
use lib.ListN.{get_or-eq_default}
use lib.Seq.{set_out, set-get_or}
use Rattle.words.specs.Words.{words, Stored}
use Rattle.words.specs.Tables.{marked, digits, marks}
use Rattle.words.specs.Bits.{places}
use Rattle.words.proofs.Tables.{take_set, digits_length, digits_get, digits_or, digits_xor, one_digit, marks_length, marks_set, marks_get}
use Rattle.model.specs.declared.Value.{Value}
use Rattle.model.specs.declared.Value.TheVariants.{Bool as Truth}
use Rattle.model.specs.Base.{if◌then◌otherwise◌, both, each, from}
use Rattle.model.specs.Circuit.{Circuit}
use Rattle.model.specs.State.{Wires, outs≔, dirty≔, to_check≔, pulses≔}
use Rattle.model.specs.Wires.{show, soil, watch, set_out as give}
use Rattle.model.specs.Settle.{pulse}
use Rattle.model.specs.Opening.{lower}
use Rattle.model.proofs.Lists.{if_both, in_range}
use Rattle.model.proofs.Sized.{mark_readers_keeps}
use Rattle.wires.specs.View.{cut, pulse_of, Values, with_wires, values}
use Rattle.wires.proofs.Lists.{both_set, both_get, each_marked, each_shift, each_blocks, each_fewer, left_of, turn_first}
use Rattle.wires.proofs.Area.{cut_poke, cut_peek, sized}
use Rattle.wires.proofs.Leaves.{Counts}
use Rattle.wires.proofs.Steps.{step, each_step}

-- ---- one pulse

module _ (c : Circuit) (bs : List ℕ) (o n : ℕ) (en : Counts 576 n (length c.outputs)) where
  pulses_few : length (values c bs).wires.pulses ≤ n
  unfolding values
  pulses_few = omega (arith, en.0, length-take (length c.outputs) (both pulse_of (marks (cut (words bs)).up) (cut (words bs)).ticks))

  module _ (d : ℕ) (l : 65536 ≤ length bs) (h : o < n) (ed : d ≡ get_or (words bs) (4680 + o / 64) 0) where
    up_word : d ≡ get_or (cut (words bs)).up (o / 64) 0
    up_word = ed ∙ cut_peek (words bs) 15 (o / 64) (omega (arith, en.1))

    up_words : length (cut (words bs)).up ≡ 9
    up_words = sized bs 15 l (omega arith) (omega arith)

    up_at : get_or (marks (cut (words bs)).up) o false ≡ marked (d / 2 ^ (o % 64) % 2)
    up_at =
        let e : 64 * (o / 64) + o % 64 ≡ o = omega arith in
        ap (λ (p : ℕ). get_or (marks (cut (words bs)).up) p false) (sym e)
        ∙ marks_get (cut (words bs)).up (o / 64) (o % 64) false (omega (arith, en.1, up_words)) (omega arith)
        ∙ digits_get 64 (get_or (cut (words bs)).up (o / 64) 0) (o % 64) false (omega arith)
        ∙ ap (λ (x : ℕ). marked (x / 2 ^ (o % 64) % 2)) (sym up_word)

    -- a word whose digits are those of d but for that of output o
    up_set : (x : ℕ) (v : Bool) → digits 64 x ≡ set (digits 64 d) (o % 64) v → marks (set (cut (words bs)).up (o / 64) x) ≡ set (marks (cut (words bs)).up) o v
    up_set x v q =
        let e : 64 * (o / 64) + o % 64 ≡ o = omega arith in
        marks_set (cut (words bs)).up (o / 64) (o % 64) x v (omega (arith, en.1, up_words)) (omega arith) (q ∙ ap (λ (y : ℕ). set (digits 64 y) (o % 64) v) up_word)
        ∙ ap (λ (p : ℕ). set (marks (cut (words bs)).up) p v) e

    pulse_word : (t : ℕ) → t ≡ get_or (cut (words bs)).ticks o 0 → get_or (values c bs).wires.pulses o 0 ≡ pulse_of (marked (d / 2 ^ (o % 64) % 2)) t
    unfolding values
    pulse_word t et =
        let m : length (cut (words bs)).ticks ≡ 576 = sized bs 14 l (omega arith) (omega arith) in
        get_or-take (length c.outputs) (both pulse_of (marks (cut (words bs)).up) (cut (words bs)).ticks) o 0 (omega (arith, en.0))
        ∙ both_get pulse_of (marks (cut (words bs)).up) (cut (words bs)).ticks o false 0 0 (omega (arith, en.1, up_words, marks_length (cut (words bs)).up)) (omega (arith, en.1, m))
        ∙ ap₂ pulse_of up_at (sym et)

    pub raised_down : d / 2 ^ (o % 64) % 2 ≡ 0 → 0 ≡ get_or (values c bs).wires.pulses o 0
    unfolding pulse_of
    raised_down z = sym (pulse_word (get_or (cut (words bs)).ticks o 0) refl ∙ ap (λ (x : ℕ). pulse_of (marked x) (get_or (cut (words bs)).ticks o 0)) z)

    pub raised_up : (t : ℕ) → (d / 2 ^ (o % 64) % 2 ≡ 0 → ⊥) → t ≡ get_or (words bs) (4104 + o) 0 → t ≡ get_or (values c bs).wires.pulses o 0
    unfolding pulse_of
    raised_up t f et =
        let p : t ≡ get_or (cut (words bs)).ticks o 0 = et ∙ cut_peek (words bs) 14 o (omega (arith, en.1)) in
        sym (pulse_word t p ∙ ap (λ (x : Bool). pulse_of (not x) t) (ne_eqb (d / 2 ^ (o % 64) % 2) 0 f))

    pub pulse_ended :
        (bs₁ : List ℕ) → (d / 2 ^ (o % 64) % 2 ≡ 0 → ⊥) → Stored bs bs₁ (4680 + o / 64) (bit_xor d (1 * 2 ^ (o % 64) % 2 ^ 64)) →
        values c bs₁ ≡ with_wires (values c bs) (pulses≔ (values c bs).wires (set (values c bs).wires.pulses o 0))
    unfolding values pulses≔ pulse_of
    pulse_ended bs₁ f s =
        let t = cut (words bs) in
        let x = bit_xor d (1 * 2 ^ (o % 64) % 2 ^ 64) in
        let m : get_or (digits 64 d) (o % 64) false ≡ true = digits_get 64 d (o % 64) false (omega arith) ∙ ap not (ne_eqb (d / 2 ^ (o % 64) % 2) 0 f) in
        let q : digits 64 x ≡ set (digits 64 d) (o % 64) false = ap (λ (y : ℕ). digits 64 (bit_xor d y)) (one_digit (o % 64) (omega arith)) ∙ digits_xor 64 d (o % 64) m in
        let p : both pulse_of (set (marks t.up) o false) t.ticks ≡ set (both pulse_of (marks t.up) t.ticks) o 0 =
        ap (both pulse_of (set (marks t.up) o false)) (sym (set-get_or t.ticks o 0)) ∙ both_set pulse_of (marks t.up) t.ticks o false (get_or t.ticks o 0) in
        rw (
          s.words,
          cut_poke (words bs) 15 (o / 64) x (omega (arith, en.1)),
          s.tail,
          up_set x false q,
          p,
          take_set (length c.outputs) (both pulse_of (marks t.up) t.ticks) o 0,
        )

    pub pulse_down : d / 2 ^ (o % 64) % 2 ≡ 0 → values c bs ≡ with_wires (values c bs) (pulses≔ (values c bs).wires (set (values c bs).wires.pulses o 0))
    unfolding pulses≔
    pulse_down z =
        let q : set (values c bs).wires.pulses o 0 ≡ (values c bs).wires.pulses = ap (λ (x : ℕ). set (values c bs).wires.pulses o x) (raised_down z) ∙ set-get_or (values c bs).wires.pulses o 0 in
        rw q

    pub pulse_set :
        (bs₁ bs₂ : List ℕ) (t : ℕ) → t ≡ get_or (words bs) 0 0 → Stored bs bs₁ (4680 + o / 64) (bit_or d (2 ^ (o % 64))) → Stored bs₁ bs₂ (4104 + o) t →
        values c bs₂ ≡ with_wires (values c bs) (pulses≔ (values c bs).wires (set (values c bs).wires.pulses o (values c bs).wires.tick))
    unfolding values pulses≔ pulse_of
    pulse_set bs₁ bs₂ t et e₁ e₂ =
        let r = cut (words bs) in
        let x = bit_or d (2 ^ (o % 64)) in
        let q : digits 64 x ≡ set (digits 64 d) (o % 64) true = digits_or 64 d (o % 64) in
        let p : t ≡ get_or r.tick 0 0 = et ∙ cut_peek (words bs) 0 0 (omega arith) in
        rw (
          e₂.words,
          cut_poke (words bs₁) 14 o t (omega (arith, en.1)),
          e₁.words,
          cut_poke (words bs) 15 (o / 64) x (omega (arith, en.1)),
          e₂.tail,
          e₁.tail,
          up_set x true q,
          both_set pulse_of (marks r.up) r.ticks o true t,
          take_set (length c.outputs) (both pulse_of (marks r.up) r.ticks) o t,
          ← p,
        )

  pub raised_past : n ≤ o → 0 ≡ get_or (values c bs).wires.pulses o 0
  raised_past h = sym (get_or-eq_default (values c bs).wires.pulses 0 {n = o} (omega (arith, pulses_few)))

  pub pulse_past : (t : ℕ) → n ≤ o → values c bs ≡ with_wires (values c bs) (pulses≔ (values c bs).wires (set (values c bs).wires.pulses o t))
  unfolding pulses≔
  pulse_past t h = rw (set_out (values c bs).wires.pulses o t (omega (arith, pulses_few)))

pub pulsed :
    (c : Circuit) (v v₁ v₂ : Values) (o : ℕ) → v₁ ≡ with_wires v (give c v.wires o (Truth true)) →
    v₂ ≡ with_wires v₁ (pulses≔ v₁.wires (set v₁.wires.pulses o v₁.wires.tick)) → v₂ ≡ with_wires v (pulse c v.wires o)
unfolding pulse
pulsed c v v₁ v₂ o e₁ e₂ = rw (e₂, e₁)

-- ---- whether it has ended

module _ (c : Circuit) (bs : List ℕ) (o at t : ℕ) (b : Bool) (ea : at ≡ get_or (values c bs).wires.pulses o 0) (et : t ≡ get_or (words bs) 0 0) (eb : b ≡ (ltb 0 at && leb (at + 2) t)) where
  the_test : (ltb 0 (get_or (values c bs).wires.pulses o 0) && leb (get_or (values c bs).wires.pulses o 0 + 2) (values c bs).wires.tick) ≡ b
  the_test = sym (eb ∙ ap₂ (λ (x y : ℕ). ltb 0 x && leb (x + 2) y) ea tick_is)
    where
      tick_is : t ≡ (values c bs).wires.tick
      tick_is = et ∙ (unfold values in cut_peek (words bs) 0 0 (omega arith))

  pub lower_stays : b ≡ false → values c bs ≡ with_wires (values c bs) (lower c (values c bs).wires o)
  unfolding lower if◌then◌otherwise◌
  lower_stays h = rw (the_test ∙ h)

  pub lower_falls :
      (v₁ v₂ : Values) → b ≡ true → v₁ ≡ with_wires (values c bs) (pulses≔ (values c bs).wires (set (values c bs).wires.pulses o 0)) →
      v₂ ≡ with_wires v₁ (give c v₁.wires o (Truth false)) → v₂ ≡ with_wires (values c bs) (lower c (values c bs).wires o)
  unfolding lower if◌then◌otherwise◌
  lower_falls v₁ v₂ h e₁ e₂ = rw (the_test ∙ h) (e₂ ∙ ap (λ (v : Values). with_wires v (give c v.wires o (Truth false))) e₁)

-- ---- all pulses

zero_set : (l : List ℕ) (i j : ℕ) → get_or l j 0 ≡ 0 → get_or (set l i 0) j 0 ≡ 0
zero_set [] i j e = refl
zero_set (x ∷ l) zero zero e = refl
zero_set (x ∷ l) zero (suc j) e = e
zero_set (x ∷ l) (suc i) zero e = e
zero_set (x ∷ l) (suc i) (suc j) e = zero_set l i j e

down_at : (bs : List Bool) (ts : List ℕ) (k o : ℕ) → get_or bs o true ≡ false → get_or (take k (both pulse_of bs ts)) o 0 ≡ 0
unfolding both pulse_of
down_at bs ts zero o e = refl
down_at [] [] (suc k) o e = refl
down_at [] (t ∷ ts) (suc k) o e = refl
down_at (b ∷ bs) [] (suc k) o e = refl
down_at (true ∷ bs) (t ∷ ts) (suc k) zero e = let z : ◌≡◌ {A = ℕ} 0 1 = cc in absurd (omega arith)
down_at (false ∷ bs) (t ∷ ts) (suc k) zero e = refl
down_at (b ∷ bs) (t ∷ ts) (suc k) (suc o) e = down_at bs ts k o e

-- a pulse whose mark is not set in word j
down_word :
    (c : Circuit) (bs : List ℕ) (d j i : ℕ) → 65536 ≤ length bs → j < 9 → d ≡ get_or (words bs) (4680 + j) 0 → get_or (digits 64 d) i true ≡ false →
    get_or (values c bs).wires.pulses (64 * j + i) 0 ≡ 0
unfolding values
down_word c bs d j i l h e q =
    let k : i < 64 = omega (arith, in_range true (digits 64 d) i q, digits_length 64 d) in
    let m : length (cut (words bs)).up ≡ 9 = sized bs 15 l (omega arith) (omega arith) in
    let p : d ≡ get_or (cut (words bs)).up j 0 = e ∙ cut_peek (words bs) 15 j h in
    down_at (marks (cut (words bs)).up) (cut (words bs)).ticks (length c.outputs) (64 * j + i)
    (marks_get (cut (words bs)).up j i true (omega arith) k ∙ ap (λ (x : ℕ). get_or (digits 64 x) i true) (sym p) ∙ q)

module _ (c : Circuit) where
  give_pulses : (w : Wires) (o : ℕ) (x : Value) → (give c w o x).pulses ≡ w.pulses
  unfolding give
  give_pulses w o x =
      if_both (λ (v : Wires). v.pulses ≡ w.pulses) _ refl
      (mark_readers_keeps c (λ (v : Wires). v.pulses ≡ w.pulses) (λ v g e p. soiled v g ∙ p) (λ v i q p. watched v i ∙ p) (show w o x) o (shown_kept w o x))
    where
      soiled : (v : Wires) (g : ℕ) → (soil v g).pulses ≡ v.pulses
      soiled v g = unfold soil dirty≔ in refl

      watched : (v : Wires) (i : ℕ) → (watch v i).pulses ≡ v.pulses
      watched v i = unfold watch to_check≔ in if_both (λ (u : Wires). u.pulses ≡ v.pulses) _ refl refl

      shown_kept : (v : Wires) (p : ℕ) (y : Value) → (show v p y).pulses ≡ v.pulses
      shown_kept v p y = unfold show outs≔ in refl

  -- what is down in w is down in v
  abbrev AsDown : Wires → Wires → Type 0
  AsDown w v = (o : ℕ) → get_or w.pulses o 0 ≡ 0 → get_or v.pulses o 0 ≡ 0

  lower_down : (w v : Wires) (o : ℕ) → AsDown w v → AsDown w (lower c v o)
  unfolding lower
  lower_down w v o p =
      if_both (AsDown w) _
      (λ i e. ap (λ (l : List ℕ). get_or l i 0) (give_pulses (pulses≔ v (set v.pulses o 0)) o (Truth false)) ∙ (unfold pulses≔ in zero_set v.pulses o i (p i e))) p

  lower_idle : (v : Wires) (o : ℕ) → get_or v.pulses o 0 ≡ 0 → lower c v o ≡ v
  unfolding lower if◌then◌otherwise◌
  lower_idle v o e = rw e

  pub word_first :
      (bs : List ℕ) (d j : ℕ) → 65536 ≤ length bs → j < 9 → d ≡ get_or (words bs) (4680 + j) 0 →
      each (step (λ (w : Wires) (b : ℕ). lower c w (64 * j + b))) (values c bs) (places 0 (digits 64 d)) ≡ with_wires (values c bs) (each (lower c) (values c bs).wires (from (64 * j) 64))
  word_first bs d j l h e =
      each_step (λ (w : Wires) (b : ℕ). lower c w (64 * j + b)) (values c bs) (places 0 (digits 64 d))
      ∙ ap (with_wires (values c bs))
      (sym (each_marked (AsDown (values c bs).wires) (λ (w : Wires) (b : ℕ). lower c w (64 * j + b)) (λ w b p. lower_down (values c bs).wires w (64 * j + b) p) 0 (digits 64 d)
      (λ w i q p. lower_idle w (64 * j + (0 + i)) (p (64 * j + (0 + i)) (down_word c bs d j (0 + i) l h e (ap (λ (k : ℕ). get_or (digits 64 d) k true) (let z : 0 + i ≡ i = omega arith in z) ∙ q)))) (values c bs).wires (λ o q. q))
      ∙ ap (λ (n : ℕ). each (λ (w : Wires) (b : ℕ). lower c w (64 * j + b)) (values c bs).wires (from 0 n)) (digits_length 64 d)
      ∙ each_shift (lower c) (values c bs).wires (64 * j) 0 64
      ∙ ap (λ (n : ℕ). each (lower c) (values c bs).wires (from n 64)) (omega arith))

-- all pulses, by as many words as the outputs take
pub all_first :
    (c : Circuit) (bs : List ℕ) (n : ℕ) → Counts 576 n (length c.outputs) →
    left_of (step (λ (w : Wires) (j : ℕ). each (lower c) w (from (64 * j) 64))) (values c bs) 0 ((n + 63) / 64) 0 ≡ with_wires (values c bs) (each (lower c) (values c bs).wires (from 0 (length c.outputs)))
all_first c bs n en =
    turn_first (step (λ (w : Wires) (j : ℕ). each (lower c) w (from (64 * j) 64))) (values c bs) 0 ((n + 63) / 64)
    ∙ each_step (λ (w : Wires) (j : ℕ). each (lower c) w (from (64 * j) 64)) (values c bs) (from 0 ((n + 63) / 64))
    ∙ ap (with_wires (values c bs))
    (each_blocks (lower c) (values c bs).wires 64 0 ((n + 63) / 64)
    ∙ each_fewer (AsDown c (values c bs).wires) (lower c) (lower_down c (values c bs).wires) (length c.outputs) (64 * ((n + 63) / 64)) (omega (arith, en.0))
    (λ w o h p. lower_idle c w o (p o (sym (raised_past c bs o n en (omega (arith, en.0)))))) (values c bs).wires (λ o q. q))

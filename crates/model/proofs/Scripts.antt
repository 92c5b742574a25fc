-- What holds of each length and each stimulus of a script that is not refused, holds of all that it gives.
use mathlib.Core.Path.{◌≡◌}
use mathlib.Core.Bool.{true, ◌&&◌}
use mathlib.Core.List.{List, [], ◌∷◌}
use mathlib.Core.Option.{Option}
use Prim.Native.Nat.{ℕ, zero, suc, ◌+◌, ◌*◌, ◌≤◌}
use native.Mathlib.Omega.{arith}
use lib.Dec.{eqb}
use lib.ListN.{length, get_or, take, drop}
use Rattle.words.specs.Words.{words}
use Rattle.schedule.specs.Promise.{All, [·], ◌∷·◌}
use Rattle.model.specs.declared.Value.{Value}
use Rattle.model.specs.declared.Value.TheVariants.{Nothing}
use Rattle.model.specs.Base.{all, both}
use Rattle.model.specs.Circuit.{Circuit, circuit, part, word_at, kind_of_gate}
use Rattle.model.specs.State.{Act}
use Rattle.model.specs.Script.{Given, stimulus, given, script}
use Rattle.model.specs.Questions.{Areas, within, good_length, question_9, question_10}
use Rattle.model.proofs.Lists.{if_both, both_true}
use Rattle.model.proofs.Asked.{Accepted}

-- what a tick is given, where L holds of its length and F of each of its stimuli
pub record GivenSo (L : ℕ → Type 0) (F : Act → Type 0) (i : Given) : Type 0 where
  pub length : L i.dt
  pub stimuli : All F i.stimuli

-- ---- one stimulus: at most one value, which is a constant

pub stimulus_few : (constants : List Value) (g k : ℕ) → length (stimulus constants g k).row ≤ 1
unfolding stimulus
stimulus_few constants g k = if_both (λ (vs : List Value). length vs ≤ 1) _ (omega arith) (omega arith)

pub stimulus_each : (P : Value → Type 0) (constants : List Value) (g k : ℕ) → P (get_or constants k Nothing) → All P (stimulus constants g k).row
unfolding stimulus
stimulus_each P constants g k p = if_both (All P) _ [·] (◌∷·◌ p [·])

-- ---- all of them

module _ {A : Type 0} {P : A → Type 0} where
  take_all : (n : ℕ) {xs : List A} → All P xs → All P (take n xs)
  take_all zero a = [·]
  take_all (suc n) [·] = [·]
  take_all (suc n) (◌∷·◌ b a) = ◌∷·◌ b (take_all n a)

  drop_all : (n : ℕ) {xs : List A} → All P xs → All P (drop n xs)
  drop_all zero a = a
  drop_all (suc n) [·] = [·]
  drop_all (suc n) (◌∷·◌ b a) = drop_all n a

module _ (L : ℕ → Type 0) (F : Act → Type 0) where
  abbrev WorldSo : Circuit → Type 0
  WorldSo c = (g k : ℕ) → eqb (kind_of_gate c g) 28 ≡ true → F (stimulus c.constants g k)

  -- of the lengths that question 9 lets through
  abbrev LengthSo : List ℕ → Type 0
  LengthSo ds = (i : ℕ) → good_length (get_or ds i 0) ≡ true → L (get_or ds i 0)

  stimuli_all : (c : Circuit) → WorldSo c → (gs ks : List ℕ) → all (λ g. eqb (kind_of_gate c g) 28) gs ≡ true → All F (both (stimulus c.constants) gs ks)
  unfolding both all
  stimuli_all c f [] [] h = [·]
  stimuli_all c f [] (k ∷ ks) h = [·]
  stimuli_all c f (g ∷ gs) [] h = [·]
  stimuli_all c f (g ∷ gs) (k ∷ ks) h =
      let t = both_true (eqb (kind_of_gate c g) 28) _ h in
      ◌∷·◌ (f g k t.0) (stimuli_all c f gs ks t.1)

  given_all : (ds ns : List ℕ) (bs : List Act) → LengthSo ds → all good_length ds ≡ true → All F bs → All (GivenSo L F) (given ds ns bs)
  unfolding given all
  given_all [] [] bs l h a = [·]
  given_all [] (n ∷ ns) bs l h a = [·]
  given_all (d ∷ ds) [] bs l h a = [·]
  given_all (d ∷ ds) (n ∷ ns) bs l h a =
      let t = both_true (good_length d) _ h in
      ◌∷·◌ (record { length = l 0 t.0; stimuli = take_all n a }) (given_all ds ns (drop n bs) (λ i. l (suc i)) t.1 (drop_all n a))

  pub script_all :
      (areas : Option Areas) (cb sb : List ℕ) → Accepted areas cb sb → LengthSo (part (words sb) 2 (word_at (words sb) 0)) → WorldSo (circuit (words cb)) →
      All (GivenSo L F) (script (circuit (words cb)).constants (words sb))
  unfolding script question_9 question_10
  script_all areas cb sb a l f =
      let c = circuit (words cb) in
      let ws = words sb in
      let T = word_at ws 0 in
      let S = word_at ws 1 in
      let t = (both_true (all good_length (part ws 2 T) && all (within 0 64) (part ws (2 + T) T)) _ a.ticks).0 in
      let s = (both_true (all (λ g. eqb (kind_of_gate c g) 28) (part ws (2 + 2 * T) S)) _ a.stimuli).0 in
      given_all (part ws 2 T) (part ws (2 + T) T) _ l (both_true (all good_length (part ws 2 T)) _ t).0 (stimuli_all c f (part ws (2 + 2 * T) S) (part ws (2 + 2 * T + S) S) s)

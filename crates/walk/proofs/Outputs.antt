-- Where the outputs of a record begin, by the words of its head.
use Prim.Native.Nat.{ℕ, ◌+◌, ◌*◌, ◌≤◌}
use mathlib.Core.Path.{◌≡◌, sym, ap, ◌∙◌}
use mathlib.Core.List.{List}
use native.Mathlib.Omega.{arith}
use lib.Dec.{eqb}
use lib.ListN.{length, get_or, drop}
use lib.Seq.{get_or-drop}
use Rattle.words.specs.Words.{words}
use Rattle.schedule.specs.Schedule.{most_units, most_waiting}
use Rattle.model.specs.Circuit.{word_at}
use Rattle.model.specs.Record.{head_size, begun_count, carried_count, stop_in, carried_at, shown_at}
use Rattle.walk.specs.Walk.{Stands}

-- a word of the record at word k is one of the log
pub word_there : (s : List ℕ) (k i : ℕ) → word_at (drop k (words s)) i ≡ get_or (words s) (k + i) 0
unfolding word_at
word_there s k i = get_or-drop k (words s) i 0

-- whether it was stopped
pub stop_tested : (s : List ℕ) (at : ℕ) {x : ℕ} → x ≡ get_or (words s) (at + 5) 0 → eqb x 0 ≡ eqb (stop_in (drop at (words s))) 0
unfolding stop_in
stop_tested s at e = ap (λ (x : ℕ). eqb x 0) (e ∙ sym (word_there s at 5))

module _ (s : List ℕ) (at : ℕ) where
  begun_there : begun_count (drop at (words s)) ≡ get_or (words s) (at + 2) 0 + get_or (words s) (at + 3) 0
  unfolding begun_count
  begun_there = λ j. word_there s at 2 j + word_there s at 3 j

  carried_there : carried_count (drop at (words s)) ≡ get_or (words s) (at + 4) 0
  unfolding carried_count
  carried_there = word_there s at 4

  shown_is : shown_at (drop at (words s)) ≡ head_size + 2 * begun_count (drop at (words s)) + 2 * carried_count (drop at (words s))
  unfolding shown_at carried_at
  shown_is = omega arith

  module _ (h : Stands s at) where
    -- its head stands in the log
    pub head_there : (at + head_size) * 8 ≤ length s
    head_there = let r = h.room in omega (arith, r, shown_is)

    module _ {l m : ℕ} (el : l ≡ get_or (words s) (at + 2) 0) (em : m ≡ get_or (words s) (at + 3) 0) where
      -- its units are few,
      pub begun_few : l + m ≤ most_units
      begun_few = let b = h.begun in omega (arith, b, begun_there, el, em)

      -- and the outputs begin behind them
      pub shown_begins :
          {k : ℕ} → k ≡ get_or (words s) (at + 4) 0 →
          (k ≤ most_waiting) × (at + head_size + 2 * (l + m) + 2 * k ≡ at + shown_at (drop at (words s))) × ((at + head_size + 2 * (l + m) + 2 * k) * 8 ≤ length s)
      shown_begins ek =
          let b = h.carried in
          let r = h.room in (
            omega (arith, b, carried_there, ek),
            omega (arith, begun_there, carried_there, shown_is, el, em, ek),
            omega (arith, begun_there, carried_there, shown_is, el, em, ek, r),
          )

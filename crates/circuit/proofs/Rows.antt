-- Questions 4 and 5 as one test of each input and one of each call.
use Prim.Native.Nat.{ℕ, ◌+◌, ◌*◌}
use mathlib.Core.Path.{◌≡◌, ◌∙◌}
use mathlib.Core.Bool.{Bool, ◌&&◌}
use mathlib.Core.List.{List}
use lib.ListN.{get_or}
use Rattle.model.specs.declared.Value.{Value}
use Rattle.model.specs.Base.{all, from}
use Rattle.model.specs.Kinds.{In, value}
use Rattle.model.specs.Circuit.{Circuit, part, word_at, stored_in}
use Rattle.model.specs.Questions.{good_input, question_4, may_call, may_be_called, question_5}

-- ---- inputs

-- the words of sources stand from `first` on, n of them, and those of what is stored behind them
module _ (ws : List ℕ) (c : Circuit) (first n : ℕ) where
  -- what question 4 asks of input i
  unfoldable pub input_test : ℕ → Bool
  input_test i = good_input c (get_or c.pins i value) (get_or ws (first + i) 0) (get_or ws (first + n + i) 0) (stored_in c i)

  pub input_tested :
      (i s k : ℕ) (x : In) (v : Value) (t : Bool) → s ≡ get_or ws (first + i) 0 → k ≡ get_or ws (first + n + i) 0 → x ≡ get_or c.pins i value →
      v ≡ stored_in c i → t ≡ good_input c x s k v → t ≡ input_test i
  unfolding input_test
  input_tested i s k x v t es ek ex ev et = et ∙ (λ j. good_input c (ex j) (es j) (ek j) (ev j))

pub inputs_all :
    (ws : List ℕ) (c : Circuit) (n k g : ℕ) → n ≡ get_or ws 2 0 → k ≡ get_or ws 1 0 → g ≡ get_or ws 0 0 →
    all (input_test ws c (4 + 2 * (k + g)) n) (from 0 n) ≡ question_4 ws c
unfolding input_test question_4 word_at
inputs_all ws c n k g en ek eg = rw (en, ek, eg)

pub calls_are :
    (ws : List ℕ) (c : Circuit) (n k g i : ℕ) (t u : Bool) → n ≡ get_or ws 3 0 → k ≡ get_or ws 1 0 → g ≡ get_or ws 0 0 → i ≡ get_or ws 2 0 →
    t ≡ all (may_call c) (part ws (4 + 2 * (k + g + i)) n) → u ≡ all (may_be_called c) (part ws (4 + 2 * (k + g + i) + n) n) → (t && u) ≡ question_5 ws c
unfolding question_5 word_at
calls_are ws c n k g i t u en ek eg ei et eu = rw (et, eu, en, ek, eg, ei)

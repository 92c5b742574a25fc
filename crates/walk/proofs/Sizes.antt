-- How many words a record has, by words of its head that are cut where no more are left.
use Prim.Native.Nat.{ℕ, ◌+◌, ◌*◌, min}
use mathlib.Core.Path.{◌≡◌, refl, sym}
use mathlib.Core.List.{List}
use native.Mathlib.Omega.{arith}
use borrow.Author.Tests.{eq-eqb, ne_eqb}
use lib.Dec.{eqb}
use lib.ListN.{get_or, drop}
use lib.Seq.{get_or-drop}
use Rattle.model.specs.Base.{if◌then◌otherwise◌}
use Rattle.model.specs.Circuit.{word_at}
use Rattle.model.specs.Record.{head_size, begun_count, carried_count, stop_in, shown_count, carried_at, shown_at, record_size}

module _ (ws : List ℕ) (at left outputs a b k s : ℕ) {l m c : ℕ} (ea : a ≡ get_or ws (at + 2) 0) (el : l ≡ min a left) (eb : b ≡ get_or ws (at + 3) 0) (em : m ≡ min b left) (ek : k ≡ get_or ws (at + 4) 0) (ec : c ≡ min k left) (es : s ≡ get_or ws (at + 5) 0) where
  size_is : (n : ℕ) → (if eqb s 0 then outputs otherwise 0) ≡ n → record_size outputs (drop at ws) ≡ head_size + 2 * (a + b) + 2 * k + 2 * n
  unfolding record_size shown_at carried_at begun_count carried_count shown_count stop_in word_at
  size_is n e =
      rw (get_or-drop at ws 2 0, get_or-drop at ws 3 0, get_or-drop at ws 4 0, get_or-drop at ws 5 0, sym ea, sym eb, sym ek, sym es, e) refl

  pub size_shown : (r : ℕ) → s ≡ 0 → r ≡ min (head_size + 2 * (l + m) + 2 * c + 2 * outputs) left → r ≡ min (record_size outputs (drop at ws)) left
  unfolding if◌then◌otherwise◌
  size_shown r h e = omega (arith, e, size_is outputs (rw (eq-eqb s 0 h) refl))

  pub size_hidden : (r : ℕ) → (s ≡ 0 → ⊥) → r ≡ min (head_size + 2 * (l + m) + 2 * c) left → r ≡ min (record_size outputs (drop at ws)) left
  unfolding if◌then◌otherwise◌
  size_hidden r h e = omega (arith, e, size_is 0 (rw (ne_eqb s 0 h) refl))

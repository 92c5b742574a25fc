-- Refreshing never runs out of depth: where pure gates form no ring, going deeper changes nothing.
use mathlib.Core.Path.{◌≡◌, refl, sym, ap, ◌∙◌}
use mathlib.Core.Bool.{Bool, true, false}
use mathlib.Core.Option.{Option, none, some}
use Prim.Native.Nat.{ℕ, zero, suc, ◌+◌, ◌≤◌}
use native.Mathlib.Omega.{arith}
use lib.ListN.{length}
use Rattle.model.specs.Base.{each, among}
use Rattle.model.specs.Circuit.{Circuit, inputs_of, source, gate_at_output}
use Rattle.model.specs.State.{Wires}
use Rattle.model.specs.Wires.{is_dirty, behind, recompute, refresh_to, refresh}
use Rattle.model.specs.Questions.{question_6}
use Rattle.model.proofs.Lists.{each_same, among_all, steady}
use Rattle.model.proofs.Sized.{SizedWires, behind_keeps, refresh_to_sized}
use Rattle.model.proofs.Placing.{Heights, heights}

module _ (c : Circuit) where
  -- a gate that is not stale stays as it is, however deep
  refresh_fresh : (n : ℕ) (w : Wires) (g : ℕ) → is_dirty w g ≡ false → refresh_to c n w g ≡ w
  unfolding refresh_to
  refresh_fresh zero w g e = refl
  refresh_fresh (suc n) w g e = rw (e, refresh_to)

  refresh_stale :
      (n : ℕ) (w : Wires) (g : ℕ) → is_dirty w g ≡ true →
      refresh_to c (suc n) w g ≡ recompute c (each (behind c (λ v i. refresh_to c n v i)) w (inputs_of c g)) g
  unfolding refresh_to
  refresh_stale n w g e = rw (e, refresh_to)

  behind_same :
      (f f' : Wires → ℕ → Wires) (w : Wires) (i : ℕ) →
      ((o : ℕ) → source c i ≡ some o → f w (gate_at_output c o) ≡ f' w (gate_at_output c o)) → behind c f w i ≡ behind c f' w i
  unfolding behind
  behind_same f f' w i k = go (source c i) k
    where
      go :
          (x : Option ℕ) → ((o : ℕ) → x ≡ some o → f w (gate_at_output c o) ≡ f' w (gate_at_output c o)) →
          ◌≡◌ {A = Wires} (elim x [ none ↦ w | some o ↦ f w (gate_at_output c o) ]) (elim x [ none ↦ w | some o ↦ f' w (gate_at_output c o) ])
      go none k = refl
      go (some o) k = k o refl

  module _ (h : Heights c) where
    -- a depth of a gate's height is enough for it
    refresh_enough : (n : ℕ) (w : Wires) (g : ℕ) → SizedWires c w → h.height g ≤ n → refresh_to c (suc n) w g ≡ refresh_to c n w g
    refresh_enough zero w g z l = go (is_dirty w g) refl
      where
        go : (b : Bool) → is_dirty w g ≡ b → refresh_to c 1 w g ≡ refresh_to c 0 w g
        go false e = refresh_fresh 1 w g e ∙ sym (refresh_fresh 0 w g e)
        go true e = absurd (omega (arith, h.least g (z.stale g e)))
    refresh_enough (suc n) w g z l = go (is_dirty w g) refl (λ v i y k. refresh_enough n v i y k)
      where
        go :
            (b : Bool) → is_dirty w g ≡ b → ((v : Wires) (i : ℕ) → SizedWires c v → h.height i ≤ n → refresh_to c (suc n) v i ≡ refresh_to c n v i) →
            refresh_to c (suc (suc n)) w g ≡ refresh_to c (suc n) w g
        go false e rec = refresh_fresh (suc (suc n)) w g e ∙ sym (refresh_fresh (suc n) w g e)
        go true e rec =
            refresh_stale (suc n) w g e
            ∙ ap (λ v. recompute c v g)
            (each_same (SizedWires c) (behind c (λ v i. refresh_to c (suc n) v i)) (behind c (λ v i. refresh_to c n v i)) (λ i. among i (inputs_of c g))
            (λ v i m y. behind_same _ _ v i λ o f. rec v (gate_at_output c o) y (omega (arith, h.above g i o (z.stale g e) m f)))
            (behind_keeps c (SizedWires c) (λ v i. refresh_to c n v i) (refresh_to_sized c n))
            w (inputs_of c g) (among_all _ (inputs_of c g) (λ i m. m)) z)
            ∙ sym (refresh_stale n w g e)

  -- as deep as there are gates, and any number deeper
  pub refreshing_never_runs_out : question_6 c ≡ true → (w : Wires) → SizedWires c w → (g k : ℕ) → refresh_to c (length c.kinds + k) w g ≡ refresh c w g
  unfolding refresh
  refreshing_never_runs_out q w z g k =
      let h = heights c q in
      steady (λ n. refresh_to c n w g) (length c.kinds) (λ n l. refresh_enough h n w g z (omega (arith, h.most g))) k

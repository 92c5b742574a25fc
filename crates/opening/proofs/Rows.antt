-- A row of eight values, written to outputs one after the other.
use Prim.Native.Nat.{ℕ, suc, ◌+◌, ◌≤◌, ◌<◌}
use mathlib.Core.Path.{◌≡◌}
use mathlib.Core.List.{List, []}
use native.Mathlib.Omega.{arith}
use lib.ListN.{length, get_or, drop, drop_of_length-le}
use lib.Seq.{drop-cons}
use Rattle.model.specs.declared.Value.{Value}
use Rattle.model.specs.Base.{both}
use Rattle.model.specs.Value.{value_of}
use Rattle.model.specs.Circuit.{Circuit}
use Rattle.model.specs.Wires.{set_out, set_outs}
use Rattle.wires.specs.View.{Values, with_wires}

module _ (c : Circuit) (o : ℕ) (ks bs : List ℕ) where
  -- what is left of it at turn k
  abbrev pub row_left : Values → ℕ → Values
  row_left v k = with_wires v (set_outs c v.wires (o + k) (both value_of (drop k ks) (drop k bs)))

  pub row_first : (v : Values) → row_left v 0 ≡ with_wires v (set_outs c v.wires o (both value_of ks bs))
  row_first v = let p : o + 0 ≡ o = omega arith in rw p

  pub row_next :
      (v v₁ x : Values) (k : ℕ) (u : Value) → length ks ≡ 8 → length bs ≡ 8 → row_left v k ≡ x → k < 8 → u ≡ value_of (get_or ks k 0) (get_or bs k 0) → v₁ ≡ with_wires v (set_out c v.wires (o + k) u) →
      row_left v₁ (k + 1) ≡ x
  unfolding both set_outs
  row_next v v₁ x k u lk lb i h eu e =
      let p : o + (k + 1) ≡ suc (o + k) = omega arith in
      let q : k + 1 ≡ suc k = omega arith in
      rw (e, p, q, eu) (rw (drop-cons ks k 0 (omega arith), drop-cons bs k 0 (omega arith)) at i)

  pub row_last : (v x : Values) (k : ℕ) → length ks ≡ 8 → length bs ≡ 8 → row_left v k ≡ x → 8 ≤ k → v ≡ x
  unfolding both set_outs
  row_last v x k lk lb i h =
      let p : drop k ks ≡ [] = drop_of_length-le ks {i = k} (omega arith) in
      let q : drop k bs ≡ [] = drop_of_length-le bs {i = k} (omega arith) in
      rw (p, q) at i

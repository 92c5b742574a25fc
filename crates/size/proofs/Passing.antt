-- A step for each gate that is entered: over the calls of an output, and over the outputs of a gate.
use Prim.Native.Nat.{ℕ, ◌<◌}
use mathlib.Core.Path.{◌≡◌, refl, sym, ap, ◌∙◌}
use mathlib.Core.List.{List, [], ◌∷◌, ◌++◌, map, map-map}
use lib.ListN.{length}
use Rattle.model.specs.Base.{each, joined, from}
use Rattle.model.specs.Kinds.{kind_at}
use Rattle.model.specs.Circuit.{Circuit, Call, kind_of_gate, output, gate_at_input}
use Rattle.links.specs.Links.{net, call_of, target, first_call, call_count}
use Rattle.links.proofs.Reading.{calls_row, each_map}
use Rattle.figures.specs.Figures.{outputs_of, entered_from, passed_on}
use Rattle.size.specs.Numbers.{entered}

entered_row : (l : List ℕ) (o : ℕ) → entered_from (net l) o ≡ map (entered l) (from (first_call l o) (call_count l o))
unfolding entered_from entered
entered_row l o =
    ap (map (λ (k : Call). gate_at_input (net l) k.to)) (calls_row l o)
    ∙ map-map (λ (k : Call). gate_at_input (net l) k.to) (λ k. call_of (target l k)) (from (first_call l o) (call_count l o))

module _ {B : Type 0} (f : B → ℕ → B) where
  each_append : (b : B) (xs ys : List ℕ) → each f b (xs ++ ys) ≡ each f (each f b xs) ys
  unfolding each
  each_append b [] ys = refl
  each_append b (x ∷ xs) ys = each_append (f b x) xs ys

  each_joined : (h : ℕ → List ℕ) (b : B) (xs : List ℕ) → each (λ b x. each f b (h x)) b xs ≡ each f b (joined (map h xs))
  unfolding each joined
  each_joined h b [] = refl
  each_joined h b (x ∷ xs) = each_joined h (each f b (h x)) xs ∙ sym (each_append b (h x) (joined (map h xs)))

  -- over the calls of output o
  pub over_calls :
      (l : List ℕ) (o first n : ℕ) (b : B) → (first ≡ first_call l o) × (first < 65536) → (n ≡ call_count l o) × (n < 65536) →
      each (λ b k. f b (entered l k)) b (from first n) ≡ each f b (entered_from (net l) o)
  over_calls l o first n b ea en =
      rw (ea.0, en.0) (sym (ap (each f b) (entered_row l o) ∙ each_map f (entered l) b (from (first_call l o) (call_count l o))))

  -- over the outputs of gate g, of kind k
  pub over_outputs :
      (c : Circuit) (g k first n : ℕ) (b : B) → first ≡ output c g 0 → k ≡ kind_of_gate c g → n ≡ length (kind_at k).outs →
      each (λ b o. each f b (entered_from c o)) b (from first n) ≡ each f b (passed_on c g)
  unfolding passed_on outputs_of
  over_outputs c g k first n b ea ek en = rw (ea, en, ek) (each_joined (entered_from c) b (from (output c g 0) (length (kind_at (kind_of_gate c g)).outs)))

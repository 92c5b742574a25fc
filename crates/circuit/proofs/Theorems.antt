-- What the answers mean. Question 6 is answered yes exactly where there is an order in which each pure gate comes after its pure sources; and where a circuit is
-- not refused, the circuit that code sees through the links is the definition's.
use mathlib.Core.Path.{◌≡◌, sym, ap, ◌∙◌}
use mathlib.Core.Bool.{Bool, true}
use mathlib.Core.List.{List}
use Prim.Native.Nat.{ℕ}
use mathlib.Core.Option.{Option}
use Rattle.words.specs.Words.{words}
use Rattle.model.specs.Circuit.{circuit}
use Rattle.model.specs.Questions.{Areas, question_6, circuit_refusal}
use Rattle.model.proofs.Placing.{Ordered, ordered, order_suffices}
use Rattle.links.specs.Links.{net}
use Rattle.circuit.specs.Refusals.{made_by, links_after}
use Rattle.circuit.proofs.Order.{none_lent, words_good, links_show}

-- r is what `ordered` answers of these links, as its contract says
module _ (links : List ℕ) (r : Bool) (answered : r ≡ question_6 (net links)) where
  pub yes_is_ordered : r ≡ true → Ordered (net links)
  yes_is_ordered h = ordered (net links) (sym answered ∙ h)

  pub ordered_is_yes : Ordered (net links) → r ≡ true
  ordered_is_yes z = answered ∙ order_suffices (net links) z

-- links are what the questions about the circuit `bytes` leave of `before`
pub links_are_circuit :
    (A : Option Areas) (bytes before links : List ℕ) → circuit_refusal A bytes ≡ 0 → links ≡ links_after bytes before → net links ≡ circuit (words bytes)
unfolding links_after made_by
links_are_circuit A bytes before links h e =
    let w = words_good bytes (none_lent A bytes h) in
    links_show bytes links w (e ∙ ap (λ (n : ℕ). made_by n bytes before) w)

-- How many wait: as many as the lists have.
use Prim.Native.Nat.{ℕ}
use mathlib.Core.Path.{◌≡◌, sym, ap, ◌∙◌}
use mathlib.Core.List.{List}
use native.Mathlib.Omega.{arith}
use lib.ListN.{length, take, drop, length-map}
use Rattle.words.specs.Words.{words}
use Rattle.lists.specs.Lists.{stacked, ranked, queued}
use Rattle.model.specs.Circuit.{Circuit}
use Rattle.units.specs.View.{cut, act_of, event_of, units}
use Rattle.units.proofs.Lending.{lent}

pub pending_count : (c : Circuit) (u : List ℕ) (n : ℕ) → n ≡ length (stacked 256 (words (take 2056 (drop 4120 u)))) → n ≡ length (units c u).lists.pending
unfolding units
pending_count c u n e =
    let q : words (take 2056 (drop 4120 u)) ≡ (cut (words u)).pending = lent u 2 (omega arith) in
    e ∙ ap (λ (w : List ℕ). length (stacked 256 w)) q ∙ sym (length-map (ranked 256 (cut (words u)).pending) (act_of c))

pub late_count : (c : Circuit) (u : List ℕ) (n : ℕ) → n ≡ length (stacked 256 (words (take 2056 (drop 6176 u)))) → n ≡ length (units c u).lists.late
unfolding units
late_count c u n e =
    let q : words (take 2056 (drop 6176 u)) ≡ (cut (words u)).late = lent u 3 (omega arith) in
    e ∙ ap (λ (w : List ℕ). length (stacked 256 w)) q ∙ sym (length-map (ranked 256 (cut (words u)).late) (act_of c))

pub delivered_count : (c : Circuit) (u : List ℕ) (n : ℕ) → n ≡ length (queued 64 (words (take 528 (drop 10288 u)))) → n ≡ length (units c u).lists.delivered
unfolding units
delivered_count c u n e =
    let q : words (take 528 (drop 10288 u)) ≡ (cut (words u)).delivered = lent u 5 (omega arith) in
    e ∙ ap (λ (w : List ℕ). length (queued 64 w)) q ∙ sym (length-map (queued 64 (cut (words u)).delivered) (event_of (units c u).events))

-- The gates of a word, as links hold those of some kinds: a loop over its marks goes over them in their order.
use Rattle.std.proofs.Common.{◌≡◌, ℕ, zero, suc, ◌/◌, ◌%◌, ◌^◌, ◌<◌, eqb, List, ◌∷◌, sym, refl, ap, ◌∙◌, pow-suc, arith}
use native.Mathlib.Nat.{div-div-eq-div-mul}
use Rattle.words.specs.Tables.{marked, digits}
use Rattle.words.specs.Bits.{places}
use Rattle.model.specs.Base.{if◌then◌otherwise◌, keep, each, from}
use Rattle.model.specs.Wires.{invalidate}
use Rattle.links.specs.Links.{cell, net, gates_of_word}
use Rattle.links.proofs.Reading.{time_sources_of}
use Rattle.wires.specs.View.{with_wires, values}
use Rattle.wires.proofs.Steps.{step, each_step}

by_digits : (d m n : ℕ) → places m (digits n (d / 2 ^ m)) ≡ keep (λ g. eqb (d / 2 ^ g % 2) 1) (from m n)
unfolding places digits keep from if◌then◌otherwise◌
by_digits d m zero = refl
by_digits d m (suc n) =
    let e : d / 2 ^ m / 2 ≡ d / 2 ^ suc m = div-div-eq-div-mul d (2 ^ m) 2 ∙ ap (λ (x : ℕ). d / x) (sym (pow-suc 2 m)) in
    go (d / 2 ^ m % 2) (omega arith) (ap (λ (y : ℕ). places (suc m) (digits n y)) e ∙ by_digits d (suc m) n)
  where
    go :
        (x : ℕ) → x < 2 → places (suc m) (digits n (d / 2 ^ m / 2)) ≡ keep (λ g. eqb (d / 2 ^ g % 2) 1) (from (suc m) n) →
        places m (marked x ∷ digits n (d / 2 ^ m / 2)) ≡ (if eqb x 1 then m ∷ keep (λ g. eqb (d / 2 ^ g % 2) 1) (from (suc m) n) otherwise keep (λ g. eqb (d / 2 ^ g % 2) 1) (from (suc m) n))
    go zero l rec = rec
    go (suc zero) l rec = ap (λ (gs : List ℕ). m ∷ gs) rec
    go (suc (suc x)) l rec = absurd (omega arith)

pub gates_by_marks : (d : ℕ) → places 0 (digits 64 d) ≡ gates_of_word d
unfolding gates_of_word
gates_by_marks d = let e : d ≡ d / 1 = omega arith in ap (λ (y : ℕ). places 0 (digits 64 y)) e ∙ by_digits d 0 64

pub times_first :
    (l bs : List ℕ) (d : ℕ) → d ≡ cell l 4 →
    each (step (invalidate (net l))) (values (net l) bs) (places 0 (digits 64 d)) ≡ with_wires (values (net l) bs) (each (invalidate (net l)) (values (net l) bs).wires (net l).time_sources)
times_first l bs d e =
    each_step (invalidate (net l)) (values (net l) bs) (places 0 (digits 64 d))
    ∙ ap (λ (gs : List ℕ). with_wires (values (net l) bs) (each (invalidate (net l)) (values (net l) bs).wires gs)) (gates_by_marks d ∙ ap gates_of_word e ∙ time_sources_of l)

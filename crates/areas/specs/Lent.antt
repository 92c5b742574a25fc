-- What contracts say of the areas together: over the circuit of the links, of what the areas held at the call and hold at the return. A function that is lent
-- some of them leaves the others, whatever they hold.
use Rattle.std.specs.Prelude.{◌≡◌, List, ℕ}
use Rattle.words.specs.Slices.{Slice, before, after}
use Rattle.lists.specs.Lists.{Filed}
use Rattle.model.specs.Circuit.{Circuit}
use Rattle.links.specs.Lent.{Room, net_of}
use Rattle.wires.specs.View.{Values, values}
use Rattle.states.specs.View.{Delays, delays}
use Rattle.states.specs.Lent.{Slots}
use Rattle.units.specs.View.{Units, units}
use Rattle.units.specs.Raising.{Went}
use Rattle.areas.specs.Areas.{Contents, together, areas, with_went}

-- a statement about the circuit, the areas at the call, and the areas at the return
abbrev pub OfAreas : Type 1
OfAreas = Circuit → Contents → Contents → Type 0

-- of all three
abbrev pub OverAll : List ℕ → Slice → Slice → Slice → OfAreas → Type 0
OverAll links vs us ds P = P (net_of links) (areas (net_of links) (before vs) (before us) (before ds)) (areas (net_of links) (after vs) (after us) (after ds))

module _ (links : List ℕ) where
  -- what each holds
  abbrev values_before : List ℕ → Values
  values_before vs = values (net_of links) vs

  abbrev values_after : List ℕ → Values
  values_after vs = values (net_of links) vs

  abbrev delays_before : List ℕ → Delays
  delays_before ds = delays (net_of links) ds

  abbrev delays_after : List ℕ → Delays
  delays_after ds = delays (net_of links) ds

  abbrev units_before : List ℕ → Units
  units_before us = units (net_of links) us

  abbrev units_after : List ℕ → Units
  units_after us = units (net_of links) us

  -- of one or two, whatever the others hold
  abbrev pub OverValues : Slice → OfAreas → Type 0
  OverValues vs P = (u : Units) → (d : Delays) → P (net_of links) (together (values_before (before vs)) u d) (together (values_after (after vs)) u d)

  abbrev pub OverDelays : Slice → OfAreas → Type 0
  OverDelays ds P = (v : Values) → (u : Units) → P (net_of links) (together v u (delays_before (before ds))) (together v u (delays_after (after ds)))

  abbrev pub OverUnits : Slice → OfAreas → Type 0
  OverUnits us P = (v : Values) (d : Delays) → P (net_of links) (together v (units_before (before us)) d) (together v (units_after (after us)) d)

  abbrev pub OverValuesDelays : Slice → Slice → OfAreas → Type 0
  OverValuesDelays vs ds P =
      (u : Units) → P (net_of links) (together (values_before (before vs)) u (delays_before (before ds))) (together (values_after (after vs)) u (delays_after (after ds)))

  abbrev pub OverValuesUnits : Slice → Slice → OfAreas → Type 0
  OverValuesUnits vs us P =
      (d : Delays) → P (net_of links) (together (values_before (before vs)) (units_before (before us)) d) (together (values_after (after vs)) (units_after (after us)) d)

-- a became b, with the answer r, as raising led to w
abbrev pub Goes : Contents → Contents → Filed → Went → Type 0
Goes a b r w = (b ≡ with_went a w) × (r ≡ w.answer)

-- all areas are lent, with what each must be
abbrev pub AllLent : List ℕ → List ℕ → List ℕ → List ℕ → Type 0
AllLent links vs us ds = Room vs × Room us × Slots links ds

-- What it means that a fact about worlds is kept: by what was done, and by a tick; also where it is kept only as long as there is no stop.
-- Also what it means that two ticks are alike, whose openings did the same but for the worlds in which they raised.
use Rattle.std.specs.Prelude.{◌≡◌, List, [], ◌∷◌, cond}
use Rattle.schedule.specs.Schedule.{list_full, log_full, Raise, Did, Setup, Turn, Tick, outcome}
use Rattle.schedule.specs.Promise.{All}

-- P holds in the world after what was done, and in each in which something was raised
pub record DidKeep {W Act Pl : Type 0} (P : W → Type 0) (d : Did W Act Pl) : Type 0 where
  pub world : P d.world
  pub raises : All (λ r. P r.at) d.raises

-- P holds in the world after what was done, unless that came to a stop, and Q of all that it raised
pub record DidBring {W Act Pl : Type 0} (P : W → Type 0) (Q : Act → Type 0) (d : Did W Act Pl) : Type 0 where
  pub world : d.stop ≡ 0 → P d.world
  pub raises : All (λ r. Q r.act) d.raises

-- the same raisings, in worlds that R relates
pub data RaisesAlike {W Act P : Type 0} (R : W → W → Type 0) : List (Raise W Act P) → List (Raise W Act P) → Type 0 where
  alike_none : RaisesAlike R [] []
  alike_next :
      {r r' : Raise W Act P} {rs rs' : List (Raise W Act P)} →
      R r.at r'.at → r.act ≡ r'.act → r.place ≡ r'.place → RaisesAlike R rs rs' → RaisesAlike R (r ∷ rs) (r' ∷ rs')

-- what was done is the same, but for the worlds in which it raised
pub record DidAlike {W Act P : Type 0} (R : W → W → Type 0) (d d' : Did W Act P) : Type 0 where
  pub world : d.world ≡ d'.world
  pub raises : RaisesAlike R d.raises d'.raises
  pub stop : d.stop ≡ d'.stop

module _ (S : Setup) where
  open S.machine use {W, In, Act, closing}

  -- P holds in the world after a tick, and in each in which a unit of it began
  pub record TickKeeps (P : W → Type 0) (k : Tick S) : Type 0 where
    pub late : All (λ (u : Turn S). P u.from) k.late
    pub main : All (λ (u : Turn S). P u.from) k.main
    pub world : P k.world

  -- P holds where a unit begins, and Q of what it runs
  pub record TurnBegins (P : W → Type 0) (Q : Act → Type 0) (u : Turn S) : Type 0 where
    pub from : P u.from
    pub act : Q u.unit.act

  -- so of each unit of a tick
  pub record TickBegins (P : W → Type 0) (Q : Act → Type 0) (k : Tick S) : Type 0 where
    pub late : All (TurnBegins P Q) k.late
    pub main : All (TurnBegins P Q) k.main

  -- a tick whose world and stop are those of one that a full list stopped in its opening, at the world x
  pub record CutAt (i : In) (x : W) (k : Tick S) : Type 0 where
    pub world : k.world ≡ (closing x i (outcome S [] [] [] list_full)).world
    pub stop : k.stop ≡ cond (closing x i (outcome S [] [] [] list_full)).fits list_full log_full

  -- two ticks, each of which got i, that are the same, or end as if both were stopped in their opening, at worlds that R relates
  pub data TicksAlike (R : W → W → Type 0) (i : In) (k k' : Tick S) : Type 0 where
    same : k ≡ k' → TicksAlike R i k k'
    cut : (x y : W) → R x y → CutAt i x k → CutAt i y k' → TicksAlike R i k k'

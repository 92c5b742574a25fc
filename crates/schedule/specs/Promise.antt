-- The order promise: what holds of every run, whole, from its start. Activations are told apart by the number that their raising gave them.
use Rattle.std.specs.Prelude.{◌≡◌, List, [], ◌∷◌, ◌++◌, map, Bool, true, cond, ◌⊎◌, ℕ, suc, ◌+◌, ◌≤◌, ◌<◌, length, leb, eqb}
use Rattle.schedule.specs.Schedule.{Raise, When, by_rank, put_off, Setup, numbered, Activation, Machine, Turn, Tick, outcome}

-- a number for each, added up over a list
abbrev pub total : {A : Type 0} → (A → ℕ) → List A → ℕ
total m [] = 0
total m (a ∷ l) = m a + total m l

-- P holds of each of a list
pub data All {A : Type 0} (P : A → Type 0) : List A → Type 0 where
  [·] : All P []
  ◌∷·◌ : {a : A} {l : List A} → P a → All P l → All P (a ∷ l)

-- P holds of each of a list, with the one in its place in another list
pub data Along {A B : Type 0} (P : A → B → Type 0) : List A → List B → Type 0 where
  [·] : {as₁ : List A} → Along P as₁ []
  ◌∷·◌ : {a : A} {as₁ : List A} {b : B} {bs : List B} → P a b → Along P as₁ bs → Along P (a ∷ as₁) (b ∷ bs)

-- ---- of a tick

module _ (S : Setup) where
  open S.machine use {W, In, Act, rank, opening, body, closing}

  -- what `ran` tells of a unit: in the world in which it began, its body came to no stop of its own
  abbrev pub RanAsTold : Turn S → Type 0
  RanAsTold u = u.ran ≡ eqb (body u.from u.unit.act).stop 0

  -- What `raised` tells, where rs was to be raised and the tick came to this stop, or 0: all of rs, in order, and in a stopped tick a first part of it.
  abbrev pub OfTold : {P : Type 0} → ℕ → List (Raise W Act P) → List (Activation S) → Type 0
  OfTold {P} stop rs es =
      (rest : List Act) × (map (λ (r : Raise W Act P). r.act) rs ≡ map (λ (e : Activation S). e.act) es ++ rest) × (stop ≡ 0 → rest ≡ [])

  -- of a unit: what its body raised, in the world in which it began
  abbrev pub RaisedAsTold : ℕ → Turn S → Type 0
  RaisedAsTold stop u = OfTold stop (body u.from u.unit.act).raises u.raised

  -- the units begun in a pass
  abbrev pub units : List (Turn S) → List (Activation S)
  units [] = []
  units (u ∷ us) = u.unit ∷ units us

  -- those of them that have run: begun, and their chain and forks ended
  abbrev pub ended : List (Turn S) → List (Activation S)
  ended [] = []
  ended (u ∷ us) = cond u.ran (u.unit ∷ ended us) (ended us)

  -- what they raised
  abbrev pub raised_by : List (Turn S) → List (Activation S)
  raised_by [] = []
  raised_by (u ∷ us) = u.raised ++ raised_by us

  -- what is carried of what the unit u raised: what stands at or below the rank reached, which is u's, and what was put off, whatever its rank
  abbrev pub is_carried : Activation S → When → Activation S → Bool
  is_carried u by_rank e = leb (rank e.act) (rank u.act)
  is_carried u put_off e = true

  -- those of them, where the body of u says how it raised each (`told`: the two lists go together)
  abbrev pub carried_of : Activation S → List (Activation S) → List (Raise W Act When) → List (Activation S)
  carried_of u [] rs = []
  carried_of u (e ∷ es) [] = []
  carried_of u (e ∷ es) (r ∷ rs) = cond (is_carried u r.place e) (e ∷ carried_of u es rs) (carried_of u es rs)

  -- those that a pass raised
  abbrev pub raised_to_carry : List (Turn S) → List (Activation S)
  raised_to_carry [] = []
  raised_to_carry (u ∷ us) = carried_of u.unit u.raised (body u.from u.unit.act).raises ++ raised_to_carry us

  -- all that a tick began
  abbrev pub begun : Tick S → List (Activation S)
  begun t = units t.late ++ units t.main

  -- all of it that has run
  abbrev pub has_run : Tick S → List (Activation S)
  has_run t = ended t.late ++ ended t.main

  -- all that was raised in a tick, in order
  abbrev pub raised : Tick S → List (Activation S)
  raised t = t.opened ++ (raised_by t.late ++ raised_by t.main)

  -- ---- the worlds

  -- each unit begins in the world that the one before it left, the first one in w
  abbrev pub Follow : W → List (Turn S) → Type 0
  Follow w [] = Unit {0}
  Follow w (u ∷ us) = (u.from ≡ w) × Follow (body w u.unit.act).world us

  -- the world that they leave, where there is no stop
  abbrev pub left_by : W → List (Turn S) → W
  left_by w [] = w
  left_by w (u ∷ us) = left_by (body w u.unit.act).world us

  -- a tick that begins in the world w, with what the script gives it
  pub record Opens (w : W) (i : In) (t : Tick S) : Type 0 where
    -- what it raised before its passes is what its opening raised
    pub opened : OfTold t.stop (opening w i).raises t.opened
    -- its units follow its opening, and one another, a stopped tick's too
    pub units : Follow (opening w i).world (t.late ++ t.main)
    -- without a stop its record is written in the world that the last one left
    pub leaves : t.stop ≡ 0 → t.world ≡ (closing (left_by (opening w i).world (t.late ++ t.main)) i (outcome S t.late t.main t.carried 0)).world

  -- The ticks of a script from the world w on: one for each that the script gives, each in the world that the one before it left; a stop ends them, and only a stop.
  pub data Follows : List In → W → List (Tick S) → Type 0 where
    script_over : {w : W} → Follows [] w []
    stopped : {i : In} {is : List In} {w : W} {t : Tick S} → Opens w i t → 1 ≤ t.stop → Follows (i ∷ is) w (t ∷ [])
    next : {i : In} {is : List In} {w : W} {t : Tick S} {ts : List (Tick S)} → Opens w i t → t.stop ≡ 0 → Follows is t.world ts → Follows (i ∷ is) w (t ∷ ts)

-- ---- the promise, of activations that have numbers

module _ (M : Machine) where
  open M use {Act, rank}

  -- an activation, known by the number of its raising
  abbrev pub Raised : Type 0
  Raised = Activation (numbered M)

  -- a tick of numbered activations
  abbrev pub Played : Type 0
  Played = Tick (numbered M)

  -- how often the activation number x stands in a list
  abbrev pub times : ℕ → List Raised → ℕ
  times x l = total (λ e. cond (eqb e.tag x) 1 0) l

  -- the activations of a list are numbered t, t + 1, .. in its order, and n is the number after them
  pub data Numbered : ℕ → List Raised → ℕ → Type 0 where
    none : {t : ℕ} → Numbered t [] t
    one : {n : ℕ} {e : Raised} {l : List Raised} → Numbered (suc e.tag) l n → Numbered e.tag (e ∷ l) n

  -- e is of a lower rank than f, or of the same and raised before it
  abbrev pub Before : Raised → Raised → Type 0
  Before e f = (rank e.act < rank f.act) ⊎ ((rank e.act ≡ rank f.act) × (e.tag < f.tag))

  -- each is before all that follow it
  pub data Sorted : List Raised → Type 0 where
    [·] : Sorted []
    ◌∷·◌ : {e : Raised} {l : List Raised} → All (Before e) l → Sorted l → Sorted (e ∷ l)

  -- What is promised of a tick t, where the tick before it carried c.
  pub record Orderly (c : List Raised) (t : Played) : Type 0 where
    -- (a) The units of the main pass begin by rank, never falling, and first raised first within a rank, up to a stop as well; what is pending at a stop would come after them.
    pub by_rank : Sorted (units (numbered M) t.main ++ t.waiting)
    -- (b) Only what was raised in the tick or carried into it begins: whatever number each activation counts for, those begun come to no more than those.
    pub only : (m : Raised → ℕ) → total m (begun (numbered M) t) ≤ total m (raised (numbered M) t) + total m c
    -- (c) Carried is exactly what the main pass raised at or below the rank that it had reached, or put off, in that order; and what the tick before carried is
    -- what comes into this one.
    pub carries : t.carried ≡ raised_to_carry (numbered M) t.main
    pub came : t.came ≡ c
    -- They are put into the late list first: whatever begins in the late pass is of a lower rank than each of them that has not begun by then, or of the same and raised
    -- before it, up to a stop as well.
    pub first_late :
        (pre : List Raised) (e : Raised) (post : List Raised) → units (numbered M) t.late ≡ pre ++ (e ∷ post) →
        All (λ f. times f.tag (pre ++ (e ∷ [])) ≡ 0 → Before e f) c
    -- (d) Without a stop, each one raised and not carried runs once in the tick, and so does each one that was carried into it.
    pub raised_once : t.stop ≡ 0 → (x : ℕ) → 1 ≤ times x (raised (numbered M) t) → times x t.carried ≡ 0 → times x (has_run (numbered M) t) ≡ 1
    pub carried_once : t.stop ≡ 0 → (x : ℕ) → 1 ≤ times x c → times x (has_run (numbered M) t) ≡ 1
    -- (e) Without a stop, late + main + carried = raised + carried by the tick before.
    pub counts : t.stop ≡ 0 → length t.late + length t.main + length t.carried ≡ length (raised (numbered M) t) + length c
    -- What (b) to (e) count as raised by units is what their bodies raised.
    pub told : All (RaisedAsTold (numbered M) t.stop) (t.late ++ t.main)

  -- the ticks of a run, the one before which carried c: each is orderly, and none follows a stop
  pub data Each : List Raised → List Played → Type 0 where
    over : {c : List Raised} → Each c []
    last : {c : List Raised} {t : Played} → Orderly c t → Each c (t ∷ [])
    on : {c : List Raised} {t : Played} {ts : List Played} → Orderly c t → t.stop ≡ 0 → Each t.carried ts → Each c (t ∷ ts)

  -- ---- of a run

  -- how often number x is raised in a list of ticks
  abbrev pub raises : ℕ → List Played → ℕ
  raises x ts = total (λ t. times x (raised (numbered M) t)) ts

  -- how often it begins in them
  abbrev pub begins : ℕ → List Played → ℕ
  begins x ts = total (λ t. times x (begun (numbered M) t)) ts

  -- all that is raised in a list of ticks, in order
  abbrev pub all_raised : List Played → List Raised
  all_raised [] = []
  all_raised (t ∷ ts) = raised (numbered M) t ++ all_raised ts

  -- x begins in the first of these ticks, in its late pass, or in none of them
  abbrev pub FirstLate : ℕ → List Played → Type 0
  FirstLate x [] = Unit {0}
  FirstLate x (t ∷ ts) = (times x (units (numbered M) t.main) ≡ 0) × (begins x ts ≡ 0)

  -- What is promised of a run.
  pub record Order (ts : List Played) : Type 0 where
    -- (a) to (e) of each tick; before the first none was carried
    pub each : Each [] ts
    -- activations are numbered 0, 1, .. as they are raised, so each raising makes a new one
    pub as_raised : (n : ℕ) × Numbered 0 (all_raised ts) n
    pub fresh : (x : ℕ) → raises x ts ≤ 1
    -- (b) none begins twice in the run
    pub once : (x : ℕ) → begins x ts ≤ 1
    -- (c) a carried one begins nowhere but in the next tick's late pass
    pub next_late :
        (pre : List Played) (t : Played) (post : List Played) → ts ≡ pre ++ (t ∷ post) →
        (x : ℕ) → 1 ≤ times x t.carried → (begins x pre ≡ 0) × (times x (begun (numbered M) t) ≡ 0) × FirstLate x post

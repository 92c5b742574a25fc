-- The scheduler of a tick, whatever its units do: which waiting activation begins next, and where one that is raised goes.
-- Document 01's own terms (activation, raised, rank reached, carried, late pass, main pass) are defined here, begun and has run in Promise; names are the source's.
use Rattle.std.specs.Prelude.{List, [], ◌∷◌, ◌++◌, map, Bool, true, cond, length, leb, ltb, eqb}
use Prim.Native.Nat.{ℕ, zero, suc}

-- ---- the limits, and the stops that they lead to

-- units begun in a tick
abbrev pub most_units : ℕ
most_units = 1024

-- of pending, late and carried activations, each, all ranks together
abbrev pub most_waiting : ℕ
most_waiting = 256

-- delivered events
abbrev pub most_delivered : ℕ
most_delivered = 64

-- a list would pass its limit
abbrev pub list_full : ℕ
list_full = 12

-- the record does not fit the log
abbrev pub log_full : ℕ
log_full = 13

-- ---- the machine that is scheduled: parameters

-- One raising: what is raised, the list that it is meant for (or, of a unit, how it raises it), and the world at that moment, which stays as it is if the list is full.
pub record Raise (W Act P : Type 0) : Type 0 where
  pub at : W
  pub act : Act
  pub place : P

-- What was done: the world after it, what was raised, in order, and the stop inside it, or 0.
pub record Did (W Act P : Type 0) : Type 0 where
  pub world : W
  pub raises : List (Raise W Act P)
  pub stop : ℕ

-- What a tick comes to: what it began in its late pass and in its main pass, what it carries, in order, and the stop that ended it, or 0.
pub record Outcome (Act : Type 0) : Type 0 where
  pub late : List Act
  pub main : List Act
  pub carried : List Act
  pub stop : ℕ

-- What writing the tick's record came to: the world after it, and whether the record fitted.
pub record Closed (W : Type 0) : Type 0 where
  pub world : W
  pub fits : Bool

-- where the opening of a tick puts what it raises
pub data Place : Type 0 where
  to_late to_delivered to_pending : Place

-- how a unit raises: by rank, or put off, which in the main pass is to the next tick, whatever the rank
pub data When : Type 0 where
  by_rank put_off : When

-- What is scheduled.
pub record Machine : Type 1 where
  -- all that a tick leaves to the next but the lists, and what a script gives to a tick
  pub W : Type 0
  pub In : Type 0
  -- what an activation runs, and its rank: its gate's
  pub Act : Type 0
  pub rank : Act → ℕ
  -- what a tick does before its passes
  pub opening : W → In → Did W Act Place
  -- What a unit does. It has run where its own stop is 0.
  pub body : W → Act → Did W Act When
  -- the record of the tick is written, which got this
  pub closing : W → In → Outcome Act → Closed W

-- ---- identities

-- How activations are told apart: `after t` is the identity given after t.
pub record Setup : Type 1 where
  pub machine : Machine
  pub Tag : Type 0
  pub first : Tag
  pub after : Tag → Tag

-- each raising takes the next number: of this the order promise speaks
abbrev pub numbered : Machine → Setup
numbered M = record { machine = M; Tag = ℕ; first = 0; after = suc }

-- no identities: this the code does
abbrev pub plain : Machine → Setup
plain M = record { machine = M; Tag = Unit {0}; first = tt; after = λ t. t }

-- ---- the lists

-- what waits for the late pass: by rank, and delivered events in the order sent
pub record LateQ (E : Type 0) : Type 0 where
  pub late : List E
  pub delivered : List E

-- what waits for the main pass, by rank, and what is carried into the next tick, in the order raised
pub record MainQ (E : Type 0) : Type 0 where
  pub pending : List E
  pub carried : List E

-- what waits while a tick opens
pub record OpenQ (E : Type 0) : Type 0 where
  pub lateq : LateQ E
  pub pending : List E

-- what taking the next one off a queue gives
pub data Took (E Q : Type 0) : Type 0 where
  empty : Took E Q
  took : E → Q → Took E Q

-- what putting one on a queue gives
pub data Filed (Q : Type 0) : Type 0 where
  full : Filed Q
  filed : Q → Filed Q

-- one more, if the list is shorter than its limit
abbrev pub room : {E Q : Type 0} → List E → ℕ → Q → Filed Q
room l most q = cond (ltb (length l) most) (filed q) full

module _ (S : Setup) where
  open S use {Tag, after, first as tag₀}
  open S.machine use {W, In, Act, rank, opening, body, closing}

  -- An activation: what is to run, and the identity that its raising gave it. It stays the same one when it is carried into the next tick.
  pub record Activation : Type 0 where
    pub act : Act
    pub tag : Tag

  -- an activation's rank
  abbrev pub rank_of : Activation → ℕ
  rank_of e = rank e.act

  -- A list is kept by rank, and within a rank by age: a new one goes behind all whose rank is not above its own.
  unfoldable pub push : Activation → List Activation → List Activation
  push e [] = e ∷ []
  push e (x ∷ l) = cond (leb (rank_of x) (rank_of e)) (x ∷ push e l) (e ∷ x ∷ l)

  -- one after the other
  unfoldable pub push_all : List Activation → List Activation → List Activation
  push_all [] l = l
  push_all (e ∷ es) l = push_all es (push e l)

  -- ---- `activate`: where a raised one goes

  -- in the late pass: to late, whatever its rank and however it is raised
  unfoldable pub activate_late : Activation → When → Activation → LateQ Activation → Filed (LateQ Activation)
  activate_late u p e q = room q.late most_waiting (record { late = push e q.late; delivered = q.delivered })

  -- The reasons for carrying, the only two: the main pass has reached its rank, or it is put off. The rank reached is `cursor`, that of the unit begun last.
  unfoldable pub carries : ℕ → When → Activation → Bool
  carries cursor by_rank e = leb (rank_of e) cursor
  carries cursor put_off e = true

  -- in the main pass, after the unit u: carried if there is reason to, else pending
  unfoldable pub activate_main : Activation → When → Activation → MainQ Activation → Filed (MainQ Activation)
  activate_main u p e q =
      cond
      (carries (rank_of u) p e)
      (room q.carried most_waiting (record { pending = q.pending; carried = q.carried ++ (e ∷ []) }))
      (room q.pending most_waiting (record { pending = push e q.pending; carried = q.carried }))

  -- in the opening: between passes there is no cursor, so nothing is carried
  unfoldable pub activate_open : Place → Activation → OpenQ Activation → Filed (OpenQ Activation)
  activate_open to_late e q =
      room q.lateq.late most_waiting (record { lateq = record { late = push e q.lateq.late; delivered = q.lateq.delivered }; pending = q.pending })
  activate_open to_delivered e q =
      room q.lateq.delivered most_delivered (record { lateq = record { late = q.lateq.late; delivered = q.lateq.delivered ++ (e ∷ []) }; pending = q.pending })
  activate_open to_pending e q = room q.pending most_waiting (record { lateq = q.lateq; pending = push e q.pending })

  -- ---- raising: one after the other, up to the first that finds its list full

  -- what raising came to: what was raised, the queue, the identity to give next, the world, and the stop or 0
  pub record Raising (Q : Type 0) : Type 0 where
    pub raised : List Activation
    pub queue : Q
    pub next : Tag
    pub world : W
    pub stop : ℕ

  -- e was raised, then the rest
  abbrev pub raising : {Q : Type 0} → Activation → Raising Q → Raising Q
  raising e k = record { raised = e ∷ k.raised; queue = k.queue; next = k.next; world = k.world; stop = k.stop }

  -- by whether there was room
  abbrev pub raise_on : {Q : Type 0} → Filed Q → Activation → Raising Q → (Q → Raising Q) → Raising Q
  raise_on full e z k = z
  raise_on (filed q) e z k = raising e (k q)

  -- as `activate` puts them
  unfoldable pub raise_all : {P Q : Type 0} → (P → Activation → Q → Filed Q) → List (Raise W Act P) → Tag → Q → W → ℕ → Raising Q
  raise_all activate [] t q w s = record { raised = []; queue = q; next = t; world = w; stop = s }
  raise_all activate (r ∷ rs) t q w s =
      raise_on
      (activate r.place (record { act = r.act; tag = t }) q)
      (record { act = r.act; tag = t })
      (record { raised = []; queue = q; next = t; world = r.at; stop = list_full })
      (λ q'. raise_all activate rs (after t) q' w s)

  -- ---- a pass: the next one begins and runs, until nothing waits; at most n units

  -- A unit begun, the world in which it began, what it raised, and whether it has run: its chain and forks ended.
  pub record Turn : Type 0 where
    pub unit : Activation
    pub from : W
    pub raised : List Activation
    pub ran : Bool

  -- what a pass came to: the units begun in order, the queue, the identity to give next, the world, the stop or 0, and the units that may still begin
  pub record Passed (Q : Type 0) : Type 0 where
    pub turns : List Turn
    pub queue : Q
    pub next : Tag
    pub world : W
    pub stop : ℕ
    pub left : ℕ

  -- the unit u begins, then the rest
  abbrev pub turning : {Q : Type 0} → Activation → W → List Activation → Bool → Passed Q → Passed Q
  turning u w es ran k =
      record { turns = record { unit = u; from = w; raised = es; ran = ran } ∷ k.turns; queue = k.queue; next = k.next; world = k.world; stop = k.stop; left = k.left }

  -- none begins
  abbrev pub no_turn : {Q : Type 0} → ℕ → Tag → Q → W → ℕ → Passed Q
  no_turn n t q w s = record { turns = []; queue = q; next = t; world = w; stop = s; left = n }

  -- by whether one waits
  abbrev pub pass_on : {Q : Type 0} → Took Activation Q → Passed Q → (Activation → Q → Passed Q) → Passed Q
  pass_on empty z k = z
  pass_on (took u q) z k = k u q

  -- It stops where one waits and none may begin any more.
  unfoldable pub pass : {Q : Type 0} → (Q → Took Activation Q) → (Activation → When → Activation → Q → Filed Q) → ℕ → Tag → Q → W → ℕ → Passed Q
  pass next activate zero t q w zero = pass_on (next q) (no_turn zero t q w 0) (λ u q'. no_turn zero t q w list_full)
  pass next activate zero t q w (suc s) = no_turn zero t q w (suc s)
  pass next activate (suc n) t q w zero =
      pass_on (next q) (no_turn (suc n) t q w 0) λ u q'.
      let d = body w u.act in
      let k = raise_all (activate u) d.raises t q' d.world d.stop in
      turning u w k.raised (eqb d.stop 0) (pass next activate n k.next k.queue k.world k.stop)
  pass next activate (suc n) t q w (suc s) = no_turn (suc n) t q w (suc s)

  -- the late pass begins the lowest rank, oldest in it, and a delivered one only while no ranked one waits
  abbrev pub next_late' : List Activation → List Activation → Took Activation (LateQ Activation)
  next_late' [] [] = empty
  next_late' [] (e ∷ d) = took e (record { late = []; delivered = d })
  next_late' (e ∷ l) d = took e (record { late = l; delivered = d })

  -- the one that the late pass begins next
  unfoldable pub next_late : LateQ Activation → Took Activation (LateQ Activation)
  next_late q = next_late' q.late q.delivered

  -- with at most n units
  unfoldable pub late_pass : ℕ → Tag → LateQ Activation → W → ℕ → Passed (LateQ Activation)
  late_pass = pass next_late activate_late

  -- the main pass begins the lowest rank, oldest in it
  abbrev pub next_main' : List Activation → List Activation → Took Activation (MainQ Activation)
  next_main' [] c = empty
  next_main' (e ∷ l) c = took e (record { pending = l; carried = c })

  -- the one that the main pass begins next
  unfoldable pub next_main : MainQ Activation → Took Activation (MainQ Activation)
  next_main q = next_main' q.pending q.carried

  -- with as many units as the late pass left
  unfoldable pub main_pass : ℕ → Tag → MainQ Activation → W → ℕ → Passed (MainQ Activation)
  main_pass = pass next_main activate_main

  -- ---- a tick, and a run

  -- A tick: what was carried into it, what its opening raised, the units begun in each pass with what they raised, what is still pending (after a stop),
  -- what it carries, and its stop, or 0. It gives identities from `first` on, up to `next`.
  pub record Tick : Type 0 where
    pub came : List Activation
    pub first : Tag
    pub opened : List Activation
    pub late : List Turn
    pub main : List Turn
    pub waiting : List Activation
    pub carried : List Activation
    pub next : Tag
    pub world : W
    pub stop : ℕ

  -- what the units of a pass ran
  abbrev pub acts : List Turn → List Act
  acts [] = []
  acts (u ∷ us) = u.unit.act ∷ acts us

  -- what the record is made of
  abbrev pub outcome : List Turn → List Turn → List Activation → ℕ → Outcome Act
  outcome late main carried stop = record { late = acts late; main = acts main; carried = map (λ (e : Activation). e.act) carried; stop = stop }

  -- a tick by its parts: what it got, what came, what its opening raised, its late units, its main pass, and what its record is made of
  abbrev pub tick_of : In → List Activation → Tag → List Activation → List Turn → Passed (MainQ Activation) → Outcome Act → Tick
  tick_of i came t opened late m r =
      let z = closing m.world i r in
      record {
        came = came;
        first = t;
        opened = opened;
        late = late;
        main = m.turns;
        waiting = m.queue.pending;
        carried = m.queue.carried;
        next = m.next;
        world = z.world;
        stop = cond z.fits m.stop log_full;
      }

  -- what was carried in goes to the late list first, so it comes first within its rank; the record is written at the end, after a stop too
  unfoldable pub tick : W → In → List Activation → Tag → Tick
  tick w i came t =
      let d = opening w i in
      let o = raise_all activate_open d.raises t (record { lateq = record { late = push_all came []; delivered = [] }; pending = [] }) d.world d.stop in
      let l = late_pass most_units o.next o.queue.lateq o.world o.stop in
      let m = main_pass l.left l.next (record { pending = o.queue.pending; carried = [] }) l.world l.stop in
      tick_of i came t o.raised l.turns m (outcome l.turns m.turns m.queue.carried m.stop)

  -- a stop ends the run
  abbrev pub go_on : ℕ → List Tick → List Tick
  go_on zero ts = ts
  go_on (suc s) ts = []

  -- the ticks of a script from a world on, what is carried into the first, and the identity to give next
  unfoldable pub run_on : List In → W → List Activation → Tag → List Tick
  run_on [] w c t = []
  run_on (i ∷ is) w c t =
      let k = tick w i c t in
      k ∷ go_on k.stop (run_on is k.world k.carried k.next)

  -- A run: the list of its ticks from the start, up to a stop, the stopped tick included.
  unfoldable pub run : List In → W → List Tick
  run is w = run_on is w [] tag₀

  -- all of these at once, where something is played by computation: `unfolding schedule_opened`
  unfoldable pub schedule_opened : ℕ
  unfolding push push_all activate_late carries activate_main activate_open raise_all pass next_late late_pass next_main main_pass tick run_on run
  schedule_opened = 0

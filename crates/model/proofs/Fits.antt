-- The records of a run fit its log, so a call leaves the log and the areas as long as they were.
use mathlib.Core.Path.{◌≡◌, refl, ap, ◌∙◌}
use mathlib.Core.Bool.{Bool, true, false}
use mathlib.Core.List.{List, [], ◌∷◌, map}
use mathlib.Core.Option.{some}
use Prim.Native.Nat.{ℕ, zero, suc, ◌+◌, ◌*◌, ◌≤◌}
use native.Mathlib.Omega.{arith}
use lib.Dec.{leb}
use lib.ListN.{length, drop, length-append, length-drop, length-replicate}
use borrow.Author.Tests.{leb-true}
use Rattle.words.specs.Words.{words, bytes}
use Rattle.words.proofs.Laws.{length_bytes}
use Rattle.schedule.specs.Schedule.{Raise, Outcome, plain, Activation, Tick, tick, go_on, run_on, run}
use Rattle.schedule.specs.Promise.{All, [·]}
use Rattle.schedule.specs.Keeping.{DidKeep}
use Rattle.schedule.proofs.Keeps.{tick_closes}
use Rattle.model.specs.Base.{if◌then◌otherwise◌, joined}
use Rattle.model.specs.Circuit.{Circuit, circuit}
use Rattle.model.specs.State.{State, Act}
use Rattle.model.specs.Unit.{World, state≔, raises_in, finish_chain}
use Rattle.model.specs.Closing.{write, close}
use Rattle.model.specs.Run.{Played, Allowed, opening, body, closing, machine, world_at_start, ticks_of, seen}
use Rattle.model.specs.Questions.{Areas, refusal}
use Rattle.model.specs.Answer.{Answer, refused, played, play, answer_to, answer, log_after, area_after}
use Rattle.model.proofs.Lists.{if_both, map_all, all_of}

-- a record takes its bytes from what is free
write_room : (w : World) (r : List ℕ) → 8 * length (write w r).world.logged + (write w r).world.room ≡ w.room
unfolding write if◌then◌otherwise◌
write_room w r = go (leb (8 * length r) w.room) refl
  where
    go : (b : Bool) → leb (8 * length r) w.room ≡ b → 8 * length (write w r).world.logged + (write w r).world.room ≡ w.room
    go true h = let l : 8 * length r ≤ w.room = leb-true _ _ h in rw h (omega arith)
    go false h = rw h (omega arith)

module _ (c : Circuit) where
  closing_room : (w : World) (i : Allowed) (o : Outcome Act) → 8 * length (closing c w i o).world.logged + (closing c w i o).world.room ≡ w.room
  unfolding closing close state≔
  closing_room w i o = write_room _ _

  -- nothing else does
  module _ (room : ℕ) where
    abbrev Free : World → Type 0
    Free w = w.room ≡ room

    raised_free : {P : Type 0} (w : World) (left : ℕ) (rs : List (Raise State Act P)) → Free w → All (λ r. Free r.at) (raises_in w left rs)
    unfolding raises_in state≔
    raised_free w left rs h = map_all _ _ (all_of (λ r. h) rs)

    opening_free : (w : World) (i : Allowed) → Free w → DidKeep Free (opening c w i)
    unfolding opening state≔
    opening_free w i h = record { world = h; raises = raised_free w i.limit _ h }

    body_free : (w : World) (a : Act) → Free w → DidKeep Free (body c w a)
    unfolding body finish_chain state≔
    body_free w a h = if_both (DidKeep Free) _ (record { world = h; raises = raised_free w _ _ h }) (record { world = h; raises = [·] })

  -- the records of the ticks from a world on
  abbrev log_of : List (Tick (plain (machine c))) → List ℕ
  log_of ts = joined (map (λ (t : Tick (plain (machine c))). t.world.logged) ts)

  fits_on : (is : List Allowed) (w : World) (came : List (Activation (plain (machine c)))) → 8 * length (log_of (run_on (plain (machine c)) is w came tt)) ≤ w.room
  unfolding run_on joined
  fits_on [] w came = omega arith
  fits_on (i ∷ is) w came =
      let k = tick (plain (machine c)) w i came tt in
      let T = tick_closes (plain (machine c)) (Free w.room) (body_free w.room) w i came tt (opening_free w.room w i refl) in
      let e = closing_room T.before i T.done in
      let h : 8 * length k.world.logged + k.world.room ≡ w.room = ap (λ (v : World). 8 * length v.logged + v.room) T.world ∙ e ∙ T.holds in
      let r = go k.stop (run_on (plain (machine c)) is k.world k.carried k.next) k.world.room (fits_on is k.world k.carried) in
      omega (arith, h, r, length-append k.world.logged (log_of (go_on (plain (machine c)) k.stop (run_on (plain (machine c)) is k.world k.carried k.next))))
    where
      go : (s : ℕ) (ts : List (Tick (plain (machine c)))) (n : ℕ) → 8 * length (log_of ts) ≤ n → 8 * length (log_of (go_on (plain (machine c)) s ts)) ≤ n
      go zero ts n h = h
      go (suc s) ts n h = omega arith

pub play_fits : (room : ℕ) (c : Circuit) (script_words : List ℕ) → 8 * length (play room c script_words).log ≤ room
unfolding play seen ticks_of run world_at_start
play_fits room c script_words = fits_on c _ _ []

-- ---- what a call leaves is as long as what it was lent

after_length : (p : Played) (log : List ℕ) → 8 * length p.log ≤ length log → length (log_after (played p) log) ≡ length log
unfolding log_after
after_length p log h =
    let n = 8 * length p.log in
    omega (arith, h, length-append (bytes p.log) (drop n log), length_bytes p.log, length-drop n log)

pub log_keeps_length : (areas : Areas) (log circuit_bytes script_bytes : List ℕ) → length (log_after (answer areas (length log) circuit_bytes script_bytes) log) ≡ length log
unfolding answer answer_to log_after
log_keeps_length areas log cb sb = go (refusal (some areas) cb sb)
  where
    go : (n : ℕ) → length (log_after (answer_to n (length log) cb sb) log) ≡ length log
    go zero = after_length (play (length log) (circuit (words cb)) (words sb)) log (play_fits (length log) (circuit (words cb)) (words sb))
    go (suc n) = refl

pub area_keeps_length : (a : Answer) (area : List ℕ) → length (area_after a area) ≡ length area
unfolding area_after
area_keeps_length (refused n) area = refl
area_keeps_length (played p) area = length-replicate (length area) 0

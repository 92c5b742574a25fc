-- Filing by rank is the scheduler's `push`.
use mathlib.Core.Path.{◌≡◌, refl, ap, ◌∙◌}
use mathlib.Core.Bool.{Bool, true, false, cond}
use mathlib.Core.List.{List, [], ◌∷◌, map}
use lib.Dec.{leb}
use Rattle.schedule.specs.Schedule.{plain, Activation, push, push_all}
use Rattle.model.specs.Circuit.{Circuit, rank_of_gate}
use Rattle.model.specs.State.{Act}
use Rattle.model.specs.Run.{machine}
use Rattle.units.specs.Raising.{by_rank, all_by_rank}

module _ (c : Circuit) where
  -- what an activation of the plain setup runs
  abbrev pub act : Activation (plain (machine c)) → Act
  act e = e.act

  -- one
  pub by_rank_is_push : (e : Activation (plain (machine c))) (l : List (Activation (plain (machine c)))) → map act (push (plain (machine c)) e l) ≡ by_rank c e.act (map act l)
  unfolding push by_rank
  by_rank_is_push e [] = refl
  by_rank_is_push e (x ∷ l) = go (leb (rank_of_gate c x.act.gate) (rank_of_gate c e.act.gate)) (by_rank_is_push e l)
    where
      go : (b : Bool) → map act (push (plain (machine c)) e l) ≡ by_rank c e.act (map act l)
          → map act (cond b (x ∷ push (plain (machine c)) e l) (e ∷ x ∷ l)) ≡ cond b (x.act ∷ by_rank c e.act (map act l)) (e.act ∷ x.act ∷ map act l)
      go true h = ap (λ (t : List Act). x.act ∷ t) h
      go false h = refl

  -- one after the other
  pub all_by_rank_is_push_all : (es l : List (Activation (plain (machine c)))) → map act (push_all (plain (machine c)) es l) ≡ all_by_rank c (map act es) (map act l)
  unfolding push_all all_by_rank
  all_by_rank_is_push_all [] l = refl
  all_by_rank_is_push_all (e ∷ es) l = all_by_rank_is_push_all es (push (plain (machine c)) e l) ∙ ap (all_by_rank c (map act es)) (by_rank_is_push e l)

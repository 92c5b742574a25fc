use mathlib.Core.Path.{ap, ◌∙◌}
use Prim.Native.Nat.{◌+◌, ◌*◌}
use borrow.Author.Rules.{rules}
use Rattle.hours.specs.Tally.{more}
use Rattle.hours.specs.declared.tally.Tally.{Tally}
use Rattle.hours.proofs.Passing.{assign_old, assign_full, assign_new}
use Rattle.hours.proofs.tally.Tally.assign.Goals.{then-p-self+else-self-eq-MOST_DRIVERS, else-p-self}
use Rattle.hours.proofs.tally.Tally.assign.Goals as goal

pub returns-then-self-eq-MOST_DRIVERS : goal.returns-then-self-eq-MOST_DRIVERS
returns-then-self-eq-MOST_DRIVERS c = let s = c.args.self.now in assign_full s.drivers s.counts s.n c.args.d c.args.a _ (search rules) (search rules) c.place-p.ensures.0 c.if-p-self.true c.if-self-eq-MOST_DRIVERS.true

pub returns : goal.returns
returns c =
    let s = c.args.self.now in let m = c.more.ensures in let v = c.args in
    elim c.if-p-self.branch [
      | then-p-self+else-self-eq-MOST_DRIVERS w ↦
          assign_new s.drivers s.counts s.n v.d v.a _ (search rules) (search rules) c.place-p.ensures.0 w.if-p-self.true w.if-self-eq-MOST_DRIVERS.false _ _ _
          (m.0 ∙ ap (λ (t : Tally). more t.counts (1 + 4 * c.place-p.result + v.a)) w.self-is, m.1 ∙ ap (λ (t : Tally). t.drivers) w.self-is, m.2 ∙ ap (λ (t : Tally). t.n) w.self-is)
      | else-p-self w ↦
          assign_old s.drivers s.counts s.n v.d v.a _ (search rules) (search rules) c.place-p.ensures.0 w.if-p-self.false c.place-p.ensures.1 _ _ _
          (m.0 ∙ ap (λ (t : Tally). more t.counts (1 + 4 * c.place-p.result + v.a)) w.self-is, m.1 ∙ ap (λ (t : Tally). t.drivers) w.self-is, m.2 ∙ ap (λ (t : Tally). t.n) w.self-is)
    ]

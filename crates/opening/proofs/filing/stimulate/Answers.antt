use borrow.Author.Rules.{rules}
use Rattle.lists.proofs.Answers.{refused}
use Rattle.words.proofs.Laws.{words_long}
use Rattle.opening.proofs.Acts.{stimuli_first, stimuli_next, stimuli_full, stimuli_last}
use Rattle.opening.proofs.filing.stimulate.Goals as goal

pub loop-k-init : goal.loop-k-init
loop-k-init c = (search rules, stimuli_first _ _ _ _ _ _)

pub returns-in_err-activate : goal.returns-in_err-activate
returns-in_err-activate c = rw (refused c.from_residual.result c.from_residual.ensures.0) (stimuli_full _ _ _ _ _ _ _ _ _ _ _ _ _ (words_long _ _ c.requires.1) (words_long _ _ c.requires.2) c.loop-k.invariant.1 c.loop-k-test.true c.get-g.ensures c.get-constant.ensures c.entry.ensures c.activate.ensures c.in_err-activate.was)

pub loop-k-preserved : goal.loop-k-preserved
loop-k-preserved c = (search rules, stimuli_next _ _ _ _ _ _ _ _ _ _ _ _ _ (words_long _ _ c.requires.1) (words_long _ _ c.requires.2) c.loop-k.invariant.1 c.loop-k-test.true c.get-g.ensures c.get-constant.ensures c.entry.ensures c.activate.ensures c.in_ok-activate.was)

pub returns : goal.returns
returns c = stimuli_last _ _ _ _ _ _ _ _ c.loop-k.invariant.1 c.loop-k-test.false

-- The questions about a circuit in groups, as they are asked: of its words alone, then of its links, which are made in between, then of the areas lent.
use Rattle.std.specs.Prelude.{ℕ, zero, suc, not, List}
use Rattle.std.proofs.Math.Option.{none, some}
use Rattle.words.specs.Words.{words}
use Rattle.model.specs.Base.{if◌then◌otherwise◌}
use Rattle.model.specs.Circuit.{Circuit, circuit}
use Rattle.model.specs.Questions.{Areas, question_1, question_2, question_3, question_4, question_5, question_19, question_6, question_7}
use Rattle.links.specs.Links.{cells}

-- the first of questions 1 to 3 whose answer is no, or 0
unfoldable pub words_refusal : List ℕ → ℕ
words_refusal bytes =
    let ws = words bytes in
    if not (question_1 bytes ws) then 1 otherwise if not (question_2 ws) then 2 otherwise if not (question_3 ws (circuit ws)) then 3 otherwise 0

-- the first of questions 4, 5, 19, 6 and the first half of 7 whose answer is no, or 0
unfoldable pub links_refusal : List ℕ → Circuit → ℕ
links_refusal ws c =
    if not (question_4 ws c) then 4
    otherwise if not (question_5 ws c) then 5
    otherwise if not (question_19 c) then 19
    otherwise if not (question_6 c) then 6
    otherwise if not (question_7 none c) then 7
    otherwise 0

-- 7 where the areas lent are not enough, or 0
unfoldable pub areas_refusal : Areas → Circuit → ℕ
areas_refusal areas c = if question_7 (some areas) c then 0 otherwise 7

-- by the number of the question that refuses its words: the links are made where none does
unfoldable pub made_by : ℕ → List ℕ → List ℕ → List ℕ
made_by zero bytes links = cells (circuit (words bytes))
made_by (suc n) bytes links = links

-- the links after the questions about a circuit, where they were `links` before
unfoldable pub links_after : List ℕ → List ℕ → List ℕ
links_after bytes links = made_by (words_refusal bytes) bytes links

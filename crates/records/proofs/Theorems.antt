-- What readers of logs rest on.
use mathlib.Core.Path.{◌≡◌, refl, sym, ap, ◌∙◌}
use mathlib.Core.Bool.{true}
use mathlib.Core.List.{List, [], ◌∷◌}
use Prim.Native.Nat.{ℕ, ◌%◌}
use native.Mathlib.Omega.{arith}
use lib.Dec.{eqb}
use lib.ListN.{length}
use borrow.Author.Tests.{eqb-true}
use Rattle.words.specs.Words.{words, tail}
use Rattle.words.proofs.Laws.{Below, lengths, determined}
use Rattle.model.specs.Circuit.{Circuit}
use Rattle.model.specs.Script.{most_ticks}
use Rattle.model.proofs.Lists.{both_true}
use Rattle.records.specs.Whole.{whole_from, whole}
use Rattle.records.specs.Records.{records, log_words}
use Rattle.records.proofs.Again.{whole_words}
use Rattle.records.proofs.Counted.{Counted, whole_counted}

module _ (c : Circuit) where
  -- a whole log is the words of its records
  pub whole_again : (log : List ℕ) → whole c log ≡ true → log_words (records c log) ≡ words log
  unfolding whole records
  whole_again log h = whole_words c most_ticks 1 (words log) (both_true (eqb (length log % 8) 0) (whole_from c most_ticks 1 (words log)) h).1

  -- and nothing more
  no_tail : (log : List ℕ) → whole c log ≡ true → tail log ≡ []
  unfolding whole
  no_tail log h = short (tail log) (let q = lengths log in let e = eqb-true (length log % 8) 0 (both_true (eqb (length log % 8) 0) (whole_from c most_ticks 1 (words log)) h).0 in omega (arith, q.0, q.1, e))
    where
      short : (l : List ℕ) → length l ≡ 0 → l ≡ []
      short [] e = refl
      short (x ∷ l) e = absurd (omega (arith, e))

  -- two whole logs with the same records are the same bytes
  pub same_log : (a b : List ℕ) → Below 256 a → Below 256 b → whole c a ≡ true → whole c b ≡ true → records c a ≡ records c b → a ≡ b
  same_log a b ha hb wa wb e = determined a b ha hb (sym (whole_again a wa) ∙ ap log_words e ∙ whole_again b wb) (no_tail a wa ∙ sym (no_tail b wb))

  -- its ticks count from 1 up by 1, and only the last record may be stopped
  pub records_counted : (log : List ℕ) → whole c log ≡ true → Counted 1 (records c log)
  unfolding whole records
  records_counted log h = whole_counted c most_ticks 1 (words log) (both_true (eqb (length log % 8) 0) (whole_from c most_ticks 1 (words log)) h).1

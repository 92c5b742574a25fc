-- No log of a run has more bytes than the figure for its ticks.
use mathlib.Core.Path.{◌≡◌, sym, ap, ◌∙◌}
use mathlib.Core.List.{List, [], ◌∷◌, map}
use Prim.Native.Nat.{ℕ, suc, ◌*◌, ◌≤◌}
use native.Mathlib.Nat.{suc-mul, mul-le-mul_right}
use native.Mathlib.Omega.{arith}
use lib.Dec.{eqb}
use lib.ListN.{length, length-append, length-map}
use Rattle.schedule.specs.Promise.{All}
use Rattle.model.specs.Base.{if◌then◌otherwise◌, joined}
use Rattle.model.specs.Circuit.{Circuit}
use Rattle.model.specs.Script.{most_ticks}
use Rattle.model.specs.Record.{LogRecord, record_words}
use Rattle.model.specs.Run.{Allowed, ticks_of, seen}
use Rattle.model.proofs.Lists.{if_both}
use Rattle.model.proofs.ReadBack.{record_length}
use Rattle.records.specs.Records.{log_words}
use Rattle.records.specs.Good.{Good, GoodLog, nothing_follows}
use Rattle.promises.proofs.Values.{as_word}
use Rattle.promises.proofs.Shape.{Shaped}
use Rattle.promises.proofs.Worlds.{Gets}
use Rattle.promises.proofs.Logs.{run_logged}
use Rattle.figures.specs.Figures.{most_record_words, most_log_bytes}

module _ (c : Circuit) where
  few_words : (t : ℕ) (last : _) (r : LogRecord) → Good c t last r → length (record_words r) ≤ most_record_words c
  unfolding most_record_words
  few_words t last r g =
      omega (arith, record_length r, g.begun, length-append r.late r.main, g.carried, g.shows, shown (length c.outputs) (eqb r.stop 0))
    where
      shown : (n : ℕ) (b : _) → (if b then n otherwise 0) ≤ n
      shown n b = if_both (λ (k : ℕ). k ≤ n) b (omega arith) (omega arith)

  all_words : (t : ℕ) (rs : List LogRecord) → GoodLog c t rs → length (log_words rs) ≤ length rs * most_record_words c
  unfolding log_words joined
  all_words t [] g = omega arith
  all_words t (r ∷ rs) g =
      omega (arith, length-append (record_words r) (joined (map record_words rs)), few_words t (nothing_follows rs) r g.0, all_words (suc t) rs g.1, suc-mul (length rs) (most_record_words c))

  -- of a run with so many ticks, each with the steps that it may make
  pub run_bytes :
      Shaped c → (room T : ℕ) (is : List Allowed) → length is ≤ most_ticks → length is ≤ T → All (Gets c) is →
      8 * length (seen c (ticks_of c room is)).log ≤ most_log_bytes c T
  unfolding seen most_log_bytes
  run_bytes Z room T is l few a =
      let m = run_logged c Z room is l a in
      let ws = (seen c (ticks_of c room is)).log in
      let e : length ws ≡ length (log_words m.records) = sym (length-map ws as_word) ∙ ap length m.words in
      omega (arith, e, all_words 1 m.records m.good, mul-le-mul_right (most_record_words c) (within m.few few))
    where
      within : {a b d : ℕ} → a ≤ b → b ≤ d → a ≤ d
      within p q = omega (arith, p, q)

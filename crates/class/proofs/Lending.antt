-- One script: its part of the book and of the log is lent, and what comes back is told.
use Prim.Native.Nat.{ℕ, ◌+◌, ◌-◌, ◌*◌, ◌≤◌, ◌<◌}
use mathlib.Core.Path.{◌≡◌, ap, ◌∙◌}
use mathlib.Core.List.{List}
use native.Mathlib.Omega.{arith}
use lib.ListN.{length, take, drop, length-drop}
use lib.Seq.{length-take-le}
use borrow.Rule.Slice.PartMut.{put_mid}
use Rattle.model.specs.Answer.{answer, log_after, area_after}
use Rattle.model.specs.Answer as model
use Rattle.model.specs.Book.{cut}
use Rattle.run.specs.Told.{Answer, told}
use Rattle.run.specs.Call as run
use Rattle.books.specs.Lent.{Spans}
use Rattle.books.specs.declared.Span.{Span}
use Rattle.books.proofs.Parts.{part_in}
use Rattle.telling.specs.Numbers.{all_of, put_from}
use Rattle.telling.proofs.Numbers.{all_told}
use Rattle.class.specs.Call.{Call, lent}
use Rattle.class.specs.Scripts.{answer_of, Turned}

module _ (k : Call) (n size i : ℕ) (s : Span) (h : i < n) (l : n * size ≤ length k.log) (b : Spans k.book i s) where
  width : i * size + size - i * size ≡ size
  width = omega arith

  -- the call of the script alone: its bytes, and its part of the log
  abbrev alone : run.Call
  alone =
      record {
        circuit = k.circuit;
        script = take (s.end - s.start) (drop s.start k.book);
        log = take (i * size + size - i * size) (drop (i * size) k.log);
        values = k.values;
        units = k.units;
        delays = k.delays;
      }

  part_is : alone.log ≡ cut size k.log i
  unfolding cut
  part_is = ap (λ (m : ℕ). take m (drop (i * size) k.log)) width

  long : length alone.log ≡ size
  long =
      ap (λ (m : ℕ). length (take m (drop (i * size) k.log))) width
      ∙ length-take-le size (drop (i * size) k.log) (omega (arith, length-drop (i * size) k.log, part_in n size i (length k.log) h l))

  same : run.call_answer alone ≡ answer_of k size i
  same = λ j. answer (lent k) (long j) k.circuit (b.2 j)

  pub turned :
      (a : Answer) (p : run.Left) (t : List ℕ) → run.Right alone p (λ m. a ≡ told m) → t ≡ put_from (3 * i) (all_of a) k.told →
      Turned k size i (record { log = put_mid (i * size) (i * size + size - i * size) k.log p.log; values = p.values; units = p.units; delays = p.delays; told = t })
  turned a p t r e =
      record {
        told = e ∙ ap (λ (x : List ℕ). put_from (3 * i) x k.told) (ap all_of (r.answer ∙ ap told same) ∙ all_told (answer_of k size i));
        log = λ j. put_mid (i * size) (width j) k.log ((r.log ∙ (λ m. log_after (same m) (part_is m))) j);
        values = r.values ∙ ap (λ (x : model.Answer). area_after x k.values) same;
        units = r.units ∙ ap (λ (x : model.Answer). area_after x k.units) same;
        delays = r.delays ∙ ap (λ (x : model.Answer). area_after x k.delays) same;
      }

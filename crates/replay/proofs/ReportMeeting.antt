-- A report that was played is the definition's.
use Rattle.std.proofs.Common.{◌≡◌, ℕ, Bool, List, ◌∙◌}
use Rattle.hours.specs.Call.{Right}
use Rattle.replay.specs.declared.report_due.ReportDue.{ReportDue}
use Rattle.replay.specs.Bytes.{answered}
use Rattle.replay.specs.ReportMet.{report_called, report_met}

-- the call answered, and all compared
pub report_meets :
    (d : ReportDue) (cb lb lines words b t b₁ t₁ : List ℕ) (n m : ℕ) (r : Bool) →
    Right (report_called d cb lb b t) (record { report = b₁; told = t₁ }) m → n ≡ m → r ≡ answered n d.number b₁ lines t₁ words →
    r ≡ report_met d cb lb lines words b t
unfolding report_met
report_meets d cb lb lines words b t b₁ t₁ n m r h e f = f ∙ (λ i. answered ((e ∙ h.number) i) d.number (h.report i) lines (h.told i) words)

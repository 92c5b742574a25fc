-- The call: its questions, the report that is written, and one law for each way out.
use Prim.Native.Nat.{ℕ, zero, suc, ◌+◌, ◌*◌, ◌≤◌, ◌<◌}
use mathlib.Core.Path.{◌≡◌, refl, sym, ap, ◌∙◌, subst}
use mathlib.Core.Bool.{Bool, true, false, not, ◌&&◌}
use mathlib.Core.List.{List, [], ◌∷◌, ◌++◌, map}
use native.Mathlib.Omega.{arith}
use Rattle.std.specs.Prelude.{Option, Some, None, Err, ok_or}
use Rattle.std.proofs.lemmas.Option.{none-some, same_Some}
use borrow.Author.Tests.{not-true, not-false, ltb-true, leb-true, le-leb, lt-leb}
use lib.Dec.{leb}
use lib.ListN.{length, set, take, drop}
use lib.Seq.{length-take-le, take-length}
use Rattle.words.specs.Words.{words, bytes, Filled}
use Rattle.words.proofs.Laws.{Below, length_bytes}
use Rattle.words.proofs.Filling.{filled_bytes}
use Rattle.model.specs.Base.{if◌then◌otherwise◌, joined, among}
use Rattle.model.specs.Circuit.{Circuit, circuit}
use Rattle.model.specs.Script.{most_ticks}
use Rattle.model.specs.Record.{LogRecord}
use Rattle.model.specs.Questions.{within, value_output, circuit_refusal, or_else}
use Rattle.model.specs.Several.{over}
use Rattle.model.proofs.Lists.{both_true, if_both}
use Rattle.links.specs.Links.{most_outputs, net}
use Rattle.records.specs.Whole.{not_whole, whole, log_refusal}
use Rattle.records.specs.Records.{records_in, records, ticks_read}
use Rattle.records.specs.Reply.{Reply, refused, writes, or_refused, reply_number, buffer_after, told_after}
use Rattle.circuit.specs.declared.refusals.Refusal.{Refusal}
use Rattle.circuit.specs.Numbers as code
use Rattle.whole.specs.Asked.{Asked}
use Rattle.whole.proofs.Passing.{passed}
use Rattle.walk.specs.Walk.{WholeLog}
use Rattle.hours.specs.Hours.{Share, shares, drivers, line_words, lines_of, report, report_words, longest, wrong_names, good_names, most_drivers, no_room, has_room, reported, hours}
use Rattle.hours.specs.Counted.{CountedAll}
use Rattle.hours.specs.declared.tally.Tally.{Tally as Kept}
use Rattle.hours.specs.Tally.{tally, at_start, Named, line_row, driver_rows, rows_from, line_size, driver_size}
use Rattle.hours.specs.Call.{Call, Left, hours_answer, reply_size, Written, numbers, Right}
use Rattle.hours.proofs.Counts.{Each, GoodShare}
use Rattle.hours.proofs.Tallies.{drivers_are, report_is}
use Rattle.hours.proofs.Theorems.{shares_good, adds_up}

-- ---- 17

module _ (c : Circuit) (driver activity len : ℕ) (t : Bool) (e : t ≡ value_output c driver) where
  pub driver_wrong : not t ≡ true → false ≡ good_names c driver activity len
  unfolding good_names
  driver_wrong h = rw (← e, not-true t h)

  module _ (h : not t ≡ false) (u : Bool) (f : u ≡ value_output c activity) where
    pub activity_wrong : not u ≡ true → false ≡ good_names c driver activity len
    unfolding good_names
    activity_wrong k = rw (← e, not-false t h, ← f, not-true u k)

    module _ (k : not u ≡ false) where
      pub no_length : len < 1 → false ≡ good_names c driver activity len
      unfolding good_names within
      no_length l = rw (← e, not-false t h, ← f, not-false u k, lt-leb 1 len l)

      pub some_length : 1 ≤ len → leb len longest ≡ good_names c driver activity len
      unfolding good_names within
      some_length l = rw (← e, not-false t h, ← f, not-false u k, le-leb 1 len l)

-- what it lets through
output_there : (c : Circuit) (o : ℕ) → value_output c o ≡ true → o < length c.outputs
unfolding value_output
output_there c o h = ltb-true o (length c.outputs) (both_true _ _ h).0

pub names_good :
    (c : Circuit) (driver activity len : ℕ) → good_names c driver activity len ≡ true → (driver < length c.outputs) × (activity < length c.outputs) × (len ≤ longest)
unfolding good_names within
names_good c driver activity len h =
    let a = both_true (value_output c driver && value_output c activity) (leb 1 len && leb len longest) h in
    let b = both_true (value_output c driver) (value_output c activity) a.0 in
    (output_there c driver b.0, output_there c activity b.1, leb-true len longest (both_true (leb 1 len) (leb len longest) a.1).1)

-- ---- the report

pub good_shares : (driver activity : ℕ) (rs : List LogRecord) → Each GoodShare (shares driver activity rs)
unfolding shares
good_shares driver activity rs = shares_good driver activity (ticks_read rs)

rows_length : (len : ℕ) (cs : List ℕ) (i : ℕ) (ds : List ℕ) → length (rows_from len cs i ds) ≡ driver_size * length ds + line_size
unfolding rows_from driver_rows line_row line_words
rows_length len cs i [] = refl
rows_length len cs i (d ∷ ds) = let r = rows_length len cs (suc i) ds in omega (arith, r)

not_written : (len : ℕ) (ss : List Share) (old : List ℕ) → has_room len (length old) ss ≡ false → Written (reported len (length old) ss) old old None
unfolding reported if◌then◌otherwise◌ reply_size buffer_after
not_written len ss old e = rw e (record { size = refl; buffer = refl })

module _ (len : ℕ) (ss : List Share) (good : Each GoodShare ss) (r : Option Kept) (q : CountedAll ss r) (old : List ℕ) where
  -- a 33rd driver
  pub too_many : r ≡ None → Written (reported len (length old) ss) old old None
  unfolding has_room drivers
  too_many l =
      let m = q.many l in
      let b = ap (λ (x : List ℕ). length x) (drivers_are ss at_start) in
      not_written len ss old (rw (lt-leb (length (drivers ss)) most_drivers (omega (arith, m, b))))

  module _ (t : Kept) (er : r ≡ Some t) (l : t.n ≤ most_drivers) (long : length t.drivers ≡ most_drivers) where
    -- the tables give the report
    tables_report : (rows_from len t.counts 0 (take t.n t.drivers) ≡ report_words (report len ss)) × (take t.n t.drivers ≡ drivers ss)
    unfolding tally
    tables_report =
        let m = length-take-le t.n t.drivers (omega (arith, l, long)) in
        report_is len ss (record { drivers = take t.n t.drivers; counts = t.counts }) good (q.few t er) (omega (arith, m, l))

    sizes : (length (drivers ss) ≡ t.n) × (length (report_words (report len ss)) ≡ driver_size * t.n + line_size)
    sizes =
        let r = tables_report in
        let m = length-take-le t.n t.drivers (omega (arith, l, long)) in
        let a = ap (λ (x : List ℕ). length x) r.1 in
        let b = ap (λ (x : List ℕ). length x) r.0 in
        let d = rows_length len t.counts 0 (take t.n t.drivers) in
        (omega (arith, a, m), omega (arith, b, d, m))

    -- the report does not fit
    pub too_long : length old < 8 * (driver_size * t.n + line_size) → Written (reported len (length old) ss) old old None
    unfolding has_room
    too_long h =
        let z = sizes in
        let z₀ = z.0 in
        let z₁ = z.1 in
        not_written len ss old
        (rw (le-leb (length (drivers ss)) most_drivers (omega (arith, z₀, l)), lt-leb (8 * length (report_words (report len ss))) (length old) (omega (arith, z₁, h))))

    -- it is written
    pub all_written :
        8 * (driver_size * t.n + line_size) ≤ length old → (new : List ℕ) → Below 256 old → Below 256 new → Filled old new 0 (rows_from len t.counts 0 (take t.n t.drivers)) →
        Written (reported len (length old) ss) old new (Some (8 * (driver_size * t.n + line_size)))
    unfolding has_room reported if◌then◌otherwise◌ reply_size buffer_after
    all_written h new b₁ b₂ f =
        let z = sizes in
        let z₀ = z.0 in
        let z₁ = z.1 in
        let x : leb (length (drivers ss)) most_drivers ≡ true = le-leb (length (drivers ss)) most_drivers (omega (arith, z₀, l)) in
        let y : leb (8 * length (report_words (report len ss))) (length old) ≡ true = le-leb (8 * length (report_words (report len ss))) (length old) (omega (arith, z₁, h)) in
        let g : Filled old new 0 (report_words (report len ss)) = subst (λ (ws : List ℕ). Filled old new 0 ws) (tables_report).0 f in
        let k = length_bytes (report_words (report len ss)) in
        rw (x, y)
        (record {
          size = (let m : 8 * (driver_size * t.n + line_size) ≡ length (bytes (report_words (report len ss))) = omega (arith, z₁, k) in ap (λ (m : ℕ). Some m) m);
          buffer = filled_bytes old new (report_words (report len ss)) b₁ b₂ (omega (arith, z₁, h)) g
              ∙ ap (λ (n : ℕ). bytes (report_words (report len ss)) ++ drop n old) (sym k);
        })

-- ---- which numbers there are

numbered : (cb log : List ℕ) (driver activity len room : ℕ) → among (reply_number (hours cb log driver activity len room)) numbers ≡ true
unfolding hours log_refusal circuit_refusal reported among or_refused or_else reply_number
numbered cb log driver activity len room =
    let c = circuit (words cb) in
    let later : Reply = or_refused (if good_names c driver activity len then 0 otherwise wrong_names) (reported len room (shares driver activity (records c log))) in
    let P : Reply → Type 0 = λ a. among (reply_number a) numbers ≡ true in
    let Q : ℕ → Type 0 = λ n. P (or_refused (or_else n (if whole c log then 0 otherwise not_whole)) later) in
    let last : P (reported len room (shares driver activity (records c log))) = if_both P _ refl refl in
    let names : P later = if_both (λ n. P (or_refused n (reported len room (shares driver activity (records c log))))) _ last refl in
    if_both Q _ refl (if_both Q _ refl (if_both Q _ refl (if_both Q _ refl (if_both Q _ refl (if_both Q _ refl (if_both Q _ refl (if_both Q _ refl (if_both (λ n. P (or_refused n later)) _ names refl))))))))

-- ---- the ways out

-- one word over those that were there
one_told : (told : List ℕ) (v : ℕ) → set told 0 v ≡ over (v ∷ []) told
unfolding over
one_told [] v = refl
one_told (x ∷ told) v = ap (λ (l : List ℕ). v ∷ l) (sym (take-length told))

-- what is handed on where nothing was written
pub no_size : (o : Option ℕ) (f e : Refusal) → o ≡ None → Err e ≡ ok_or o f → code.number_of e ≡ code.number_of f
no_size o f e z h = ap code.refused (h ∙ ap (λ (x : Option ℕ). ok_or x f) z)

module _ (k : Call) where
  abbrev c : Circuit
  c = circuit (words k.circuit)

  abbrev ss : List Share
  ss = shares k.driver k.activity (records c k.log)

  -- what holds of every call
  right : {l : Left} {r : ℕ} → r ≡ reply_number (hours_answer k) → l.report ≡ buffer_after (hours_answer k) k.report → l.told ≡ told_after (hours_answer k) k.told → Right k l r
  right n b t =
      record {
        number = n;
        report = b;
        told = t;
        numbers = numbered k.circuit k.log k.driver k.activity k.len (length k.report);
        adds_up = adds_up k.driver k.activity k.len (records c k.log);
      }

  -- a call that is refused leaves all as it was
  right_refused : (n : ℕ) → hours_answer k ≡ refused n → Right k (record { report = k.report; told = k.told }) n
  unfolding reply_number buffer_after told_after
  right_refused n e = right (ap reply_number (sym e)) (ap (λ (a : Reply). buffer_after a k.report) (sym e)) (ap (λ (a : Reply). told_after a k.told) (sym e))

  -- by the circuit's own questions or 16
  pub refused_first : {links made : List ℕ} {n : ℕ} → Asked k.circuit k.log links made n → (n ≡ 0 → ⊥) → Right k (record { report = k.report; told = k.told }) n
  unfolding hours or_refused
  refused_first {n = n} a h = right_refused n (rw (← a.number) (go n h _))
    where
      go : (n : ℕ) → (n ≡ 0 → ⊥) → (later : Reply) → or_refused n later ≡ refused n
      go zero h later = absurd (h refl)
      go (suc n) h later = refl

  module _ {links made : List ℕ} {n : ℕ} (a : Asked k.circuit k.log links made n) (z : n ≡ 0) where
    first : log_refusal k.circuit k.log ≡ 0
    first = sym a.number ∙ z

    shows : net made ≡ c
    shows = a.shows z

    -- by 17
    pub refused_names : {b : Bool} → b ≡ good_names (net made) k.driver k.activity k.len → not b ≡ true → Right k (record { report = k.report; told = k.told }) wrong_names
    unfolding hours or_refused if◌then◌otherwise◌
    refused_names {b = b} e h =
        let z : good_names c k.driver k.activity k.len ≡ false = ap (λ (c : Circuit). good_names c k.driver k.activity k.len) (sym shows) ∙ sym e ∙ not-true b h in
        right_refused wrong_names (rw (first, z))

    module _ {b : Bool} (e : b ≡ good_names (net made) k.driver k.activity k.len) (h : not b ≡ false) {outs : ℕ} (eo : outs ≡ length (net made).outputs) where
      named : good_names c k.driver k.activity k.len ≡ true
      named = ap (λ (c : Circuit). good_names c k.driver k.activity k.len) (sym shows) ∙ sym e ∙ not-false b h

      -- what the report is written from
      pub report_asks : outs ≤ most_outputs → Named outs k.driver k.activity × WholeLog outs k.log × (k.len ≤ longest)
      report_asks m =
          let p = names_good (net made) k.driver k.activity k.len (sym e ∙ not-false b h) in
          let d = p.0 in
          let f = p.1 in
          ((m, omega (arith, eo, d), omega (arith, eo, f)), record { circuit = net made; outputs = eo; whole = (passed a z).whole_log }, p.2)

      -- the questions are answered yes, so the answer is the report, or 18
      asked : hours_answer k ≡ reported k.len (length k.report) ss
      unfolding hours or_refused if◌then◌otherwise◌
      asked = rw (first, named)

      same_records : shares k.driver k.activity (records_in outs most_ticks (words k.log)) ≡ ss
      unfolding records
      same_records = ap (λ (n : ℕ). shares k.driver k.activity (records_in n most_ticks (words k.log))) (eo ∙ ap (λ (c : Circuit). length c.outputs) shows)

      module _ {new : List ℕ} {size : Option ℕ} (w : Written (reported k.len (length k.report) (shares k.driver k.activity (records_in outs most_ticks (words k.log)))) k.report new size) where
        written : Written (hours_answer k) k.report new size
        written = subst (λ (a : Reply). Written a k.report new size) (ap (reported k.len (length k.report)) same_records ∙ sym asked) w

        -- the report is written
        fits : has_room k.len (length k.report) ss ≡ true → hours_answer k ≡ writes (bytes (report_words (report k.len ss)))
        unfolding reported if◌then◌otherwise◌
        fits q = asked ∙ rw q refl

        fits_not : has_room k.len (length k.report) ss ≡ false → hours_answer k ≡ refused no_room
        unfolding reported if◌then◌otherwise◌
        fits_not q = asked ∙ rw q refl

        -- by 18
        pub refused_room : size ≡ None → Right k (record { report = new; told = k.told }) no_room
        unfolding reply_size reply_number told_after
        refused_room z = go (has_room k.len (length k.report) ss) refl
          where
            go : (b : Bool) → has_room k.len (length k.report) ss ≡ b → Right k (record { report = new; told = k.told }) no_room
            go true q = absurd (none-some _ (sym z ∙ written.size ∙ ap reply_size (fits q)))
            go false q = let e = fits_not q in right (ap reply_number (sym e)) written.buffer (ap (λ (a : Reply). told_after a k.told) (sym e))

        -- by none
        pub report_told : {n : ℕ} → size ≡ Some n → {told₁ : List ℕ} → told₁ ≡ set k.told 0 n → Right k (record { report = new; told = told₁ }) 0
        unfolding reply_size reply_number told_after
        report_told {n = n} z {told₁ = told₁} t = go (has_room k.len (length k.report) ss) refl
          where
            go : (b : Bool) → has_room k.len (length k.report) ss ≡ b → Right k (record { report = new; told = told₁ }) 0
            go false q = absurd (none-some n (sym (written.size ∙ ap reply_size (fits_not q)) ∙ z))
            go true q =
                let e = fits q in
                right (ap reply_number (sym e)) written.buffer
                (t ∙ ap (set k.told 0) (same_Some n _ (sym z ∙ written.size ∙ ap reply_size e)) ∙ one_told k.told (length (bytes (report_words (report k.len ss)))) ∙ ap (λ (a : Reply). told_after a k.told) (sym e))

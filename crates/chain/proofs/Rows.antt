-- Several calls, one after the other: the remote ones from the first on, the others from the last on; one law for each way through a loop.
use Prim.Native.Nat.{ℕ, zero, suc, ◌+◌, ◌-◌, ◌≤◌, ◌<◌}
use mathlib.Core.Path.{◌≡◌, refl, sym, ap, ap₂, ◌∙◌}
use mathlib.Core.Bool.{Bool, true, false, not, cond, true≢false}
use mathlib.Core.List.{List, [], ◌∷◌, ◌++◌, map, append-nil, append_assoc}
use mathlib.Core.Option.{some}
use native.Mathlib.Omega.{arith}
use lib.ListN.{length-append}
use Rattle.lists.specs.Lists.{Filed, NoRoom, Done}
use Rattle.model.specs.Base.{if◌then◌otherwise◌, keep, from}
use Rattle.model.specs.Circuit.{Circuit, Call}
use Rattle.model.specs.Chain.{Calls, no_calls, fit, push_calls}
use Rattle.links.specs.Links.{net, call_of, target, first_call, call_count}
use Rattle.links.proofs.Reading.{calls_row}
use Rattle.units.specs.View.{Units, units}
use Rattle.units.specs.Calls.{with_calls, stack≔, forks≔}
use Rattle.chain.specs.Chain.{Pushes, calls_in, forks_behind, stack_before}
use Rattle.chain.proofs.Fits.{fit_is, fits, held_fit, was_done, was_full, pushes_done, pushes_full}

-- ---- rows of calls

pub row_first : (l : List ℕ) (a n k : ℕ) → k < n → calls_in l (a + k) (n - k) ≡ call_of (target l (a + k)) ∷ calls_in l (a + (k + 1)) (n - (k + 1))
unfolding calls_in from
row_first l a n k h =
    let e : n - k ≡ suc (n - (k + 1)) = omega arith in
    let s : a + (k + 1) ≡ suc (a + k) = omega arith in
    rw (e, s)

pub row_over : (l : List ℕ) (a n k : ℕ) → n ≤ k → calls_in l (a + k) (n - k) ≡ []
unfolding calls_in from
row_over l a n k h = let e : n - k ≡ 0 = omega arith in rw e

row_none : (l : List ℕ) (a : ℕ) → calls_in l a 0 ≡ []
unfolding calls_in from
row_none l a = refl

row_some : (l : List ℕ) (a n : ℕ) → calls_in l a (suc n) ≡ calls_in l a n ++ (call_of (target l (a + n)) ∷ [])
unfolding calls_in from
row_some l a zero = let e : a + 0 ≡ a = omega arith in rw e
row_some l a (suc n) =
    let e : suc a + n ≡ a + suc n = omega arith in
    ap (λ (ys : List Call). call_of (target l a) ∷ ys) (row_some l (suc a) n ∙ ap (λ (j : ℕ). calls_in l (suc a) n ++ (call_of (target l j) ∷ [])) e)

pub row_last : (l : List ℕ) (a k : ℕ) → 0 < k → calls_in l a k ≡ calls_in l a (k - 1) ++ (call_of (target l (a + (k - 1))) ∷ [])
row_last l a zero h = absurd (omega (arith, h))
row_last l a (suc k) h = let e : suc k - 1 ≡ k = omega arith in rw e (row_some l a k)

-- ---- one call more

pub forks_cons : (k : Call) (ks : List Call) (q : Calls) → forks_behind (k ∷ ks) q ≡ forks_behind ks (forks_behind (k ∷ []) q)
unfolding forks_behind keep if◌then◌otherwise◌
forks_cons k ks q = go k.remote
  where
    rest : List ℕ
    rest = map (λ x. x.to) (keep (λ x. x.remote) ks)

    go : (b : Bool) →
        forks≔ q (q.forks ++ map (λ x. x.to) (if b then k ∷ keep (λ x. x.remote) ks otherwise keep (λ x. x.remote) ks))
        ≡ forks≔ q (q.forks ++ map (λ x. x.to) (if b then k ∷ [] otherwise []) ++ map (λ x. x.to) (keep (λ x. x.remote) ks))
    go true = ap (forks≔ q) (sym (append_assoc q.forks (k.to ∷ []) rest))
    go false = ap (λ (y : List ℕ). forks≔ q (y ++ rest)) (sym (append-nil q.forks))

others_snoc : (k : Call) (ks : List Call) →
    map (λ x. x.to) (keep (λ x. not x.remote) (ks ++ (k ∷ []))) ≡ map (λ x. x.to) (keep (λ x. not x.remote) ks) ++ map (λ x. x.to) (keep (λ x. not x.remote) (k ∷ []))
unfolding keep if◌then◌otherwise◌
others_snoc k [] = refl
others_snoc k (x ∷ ks) = go (not x.remote) (others_snoc k ks)
  where
    others : List Call → List ℕ
    others ys = map (λ x. x.to) (keep (λ x. not x.remote) ys)

    go : (b : Bool) → others (ks ++ (k ∷ [])) ≡ others ks ++ others (k ∷ []) →
        map (λ x. x.to) (if b then x ∷ keep (λ x. not x.remote) (ks ++ (k ∷ [])) otherwise keep (λ x. not x.remote) (ks ++ (k ∷ [])))
        ≡ map (λ x. x.to) (if b then x ∷ keep (λ x. not x.remote) ks otherwise keep (λ x. not x.remote) ks) ++ others (k ∷ [])
    go true e = ap (λ (ys : List ℕ). x.to ∷ ys) e
    go false e = e

pub stack_snoc : (k : Call) (ks : List Call) (q : Calls) → stack_before (ks ++ (k ∷ [])) q ≡ stack_before ks (stack_before (k ∷ []) q)
unfolding stack_before
stack_snoc k ks q =
    ap (stack≔ q) (ap (λ (y : List ℕ). y ++ q.stack) (others_snoc k ks) ∙ append_assoc (map (λ x. x.to) (keep (λ x. not x.remote) ks)) _ q.stack)

-- what is added to calls that do not fit does not fit

forks_fewer : (ks : List Call) (q : Calls) → fit (forks_behind ks q) ≡ true → fit q ≡ true
unfolding forks_behind
forks_fewer ks q e =
    let t = fits (forks_behind ks q) e in
    fit_is q t.0 (omega (arith, t.1, length-append q.forks (map (λ k. k.to) (keep (λ k. k.remote) ks))))

stack_fewer : (ks : List Call) (q : Calls) → fit (stack_before ks q) ≡ true → fit q ≡ true
unfolding stack_before
stack_fewer ks q e =
    let t = fits (stack_before ks q) e in
    fit_is q (omega (arith, t.0, length-append (map (λ k. k.to) (keep (λ k. not k.remote) ks)) q.stack)) t.1

grown : (a b : Bool) → (b ≡ true → a ≡ true) → a ≡ false → b ≡ false
grown a true f h = absurd (true≢false (sym (f refl) ∙ h))
grown a false f h = refl

-- ---- the ways through a loop that adds one call after the other, for any way to add

module _ (u₀ u v : Units) (q₁ q : Calls) (s : with_calls u no_calls ≡ with_calls u₀ no_calls) where
  -- one more did not fit, and q holds more
  row_full : (r : Filed) → Pushes u v r q₁ → r ≡ NoRoom → (fit q ≡ true → fit q₁ ≡ true) → Pushes u₀ v NoRoom q
  row_full r p e g = pushes_full u₀ v q (grown (fit q₁) (fit q) g (was_full (fit q₁) (sym e ∙ p.answer))) (p.others ∙ s)

-- one more was added or not, and nothing else changed
pub row_kept :
    (c : Circuit) (bs₀ bs bs₁ : List ℕ) (r : Filed) (q : Calls) → with_calls (units c bs) no_calls ≡ with_calls (units c bs₀) no_calls → Pushes (units c bs) (units c bs₁) r q →
    with_calls (units c bs₁) no_calls ≡ with_calls (units c bs₀) no_calls
row_kept c bs₀ bs bs₁ r q s p = p.others ∙ s

-- what was added is there
added : (u v : Units) (r : Filed) (q : Calls) → Pushes u v r q → r ≡ Done → v.calls ≡ q
added u v r q p e = p.calls (was_done (fit q) (sym e ∙ p.answer))

module _ (l : List ℕ) (a n k t : ℕ) (u v : Units) (q : Calls) (h : k < n) (et : t ≡ target l (a + k))
    (i : forks_behind (calls_in l (a + k) (n - k)) u.calls ≡ q) where
  forks_split : forks_behind (calls_in l (a + (k + 1)) (n - (k + 1))) (forks_behind (call_of t ∷ []) u.calls) ≡ q
  forks_split =
      sym (forks_cons (call_of t) (calls_in l (a + (k + 1)) (n - (k + 1))) u.calls)
      ∙ ap (λ (x : ℕ). forks_behind (call_of x ∷ calls_in l (a + (k + 1)) (n - (k + 1))) u.calls) et
      ∙ sym (ap (λ (ks : List Call). forks_behind ks u.calls) (row_first l a n k h))
      ∙ i

  pub forks_stop : (u₀ : Units) (r : Filed) → with_calls u no_calls ≡ with_calls u₀ no_calls → Pushes u v r (forks_behind (call_of t ∷ []) u.calls) → r ≡ NoRoom → Pushes u₀ v NoRoom q
  forks_stop u₀ r s p e = row_full u₀ u v _ q s r p e (λ f. forks_fewer (calls_in l (a + (k + 1)) (n - (k + 1))) _ (ap fit forks_split ∙ f))

  pub forks_next :
      (r : Filed) → Pushes u v r (forks_behind (call_of t ∷ []) u.calls) → r ≡ Done → forks_behind (calls_in l (a + (k + 1)) (n - (k + 1))) v.calls ≡ q
  forks_next r p e = ap (forks_behind (calls_in l (a + (k + 1)) (n - (k + 1)))) (added u v r _ p e) ∙ forks_split

forks_nothing : (q : Calls) → forks_behind [] q ≡ q
unfolding forks_behind keep
forks_nothing q = ap (forks≔ q) (append-nil q.forks)

stack_nothing : (q : Calls) → stack_before [] q ≡ q
unfolding stack_before keep
stack_nothing q = refl

pub forks_first : (l : List ℕ) (a n : ℕ) (q : Calls) → forks_behind (calls_in l (a + 0) (n - 0)) q ≡ forks_behind (calls_in l a n) q
forks_first l a n q = let e : a + 0 ≡ a = omega arith in let m : n - 0 ≡ n = omega arith in rw (e, m)

pub forks_end :
    (l : List ℕ) (a n k : ℕ) (c : Circuit) (bs bs₀ : List ℕ) (q : Calls) → n ≤ k → with_calls (units c bs) no_calls ≡ with_calls (units c bs₀) no_calls →
    forks_behind (calls_in l (a + k) (n - k)) (units c bs).calls ≡ q → Pushes (units c bs₀) (units c bs) Done q
forks_end l a n k c bs bs₀ q h s i =
    let e : (units c bs).calls ≡ q = sym (forks_nothing (units c bs).calls) ∙ sym (ap (λ (ks : List Call). forks_behind ks (units c bs).calls) (row_over l a n k h)) ∙ i in
    pushes_done (units c bs₀) (units c bs) q (sym (ap fit e) ∙ held_fit c bs) e s

module _ (l : List ℕ) (a k t : ℕ) (u v : Units) (q : Calls) (h : 0 < k) (et : t ≡ target l (a + (k - 1)))
    (i : stack_before (calls_in l a k) u.calls ≡ q) where
  stack_split : stack_before (calls_in l a (k - 1)) (stack_before (call_of t ∷ []) u.calls) ≡ q
  stack_split =
      sym (stack_snoc (call_of t) (calls_in l a (k - 1)) u.calls)
      ∙ ap (λ (x : ℕ). stack_before (calls_in l a (k - 1) ++ (call_of x ∷ [])) u.calls) et
      ∙ sym (ap (λ (ks : List Call). stack_before ks u.calls) (row_last l a k h))
      ∙ i

  pub stack_stop : (u₀ : Units) (r : Filed) → with_calls u no_calls ≡ with_calls u₀ no_calls → Pushes u v r (stack_before (call_of t ∷ []) u.calls) → r ≡ NoRoom → Pushes u₀ v NoRoom q
  stack_stop u₀ r s p e = row_full u₀ u v _ q s r p e (λ f. stack_fewer (calls_in l a (k - 1)) _ (ap fit stack_split ∙ f))

  pub stack_next : (r : Filed) → Pushes u v r (stack_before (call_of t ∷ []) u.calls) → r ≡ Done → stack_before (calls_in l a (k - 1)) v.calls ≡ q
  stack_next r p e = ap (stack_before (calls_in l a (k - 1))) (added u v r _ p e) ∙ stack_split

pub stack_end :
    (l : List ℕ) (a k : ℕ) (c : Circuit) (bs bs₀ : List ℕ) (q : Calls) → k ≤ 0 → with_calls (units c bs) no_calls ≡ with_calls (units c bs₀) no_calls →
    stack_before (calls_in l a k) (units c bs).calls ≡ q → Pushes (units c bs₀) (units c bs) Done q
stack_end l a k c bs bs₀ q h s i =
    let z : k ≡ 0 = omega arith in
    let e : (units c bs).calls ≡ q = sym (stack_nothing (units c bs).calls) ∙ sym (ap (λ (ks : List Call). stack_before ks (units c bs).calls) (ap (calls_in l a) z ∙ row_none l a)) ∙ i in
    pushes_done (units c bs₀) (units c bs) q (sym (ap fit e) ∙ held_fit c bs) e s

-- ---- both ways

module _ (ks : List Call) (u u₁ : Units) where
  pub all_stop : (r : Filed) → Pushes u u₁ r (forks_behind ks u.calls) → r ≡ NoRoom → Pushes u u₁ NoRoom (stack_before ks (forks_behind ks u.calls))
  all_stop r p f = row_full u u u₁ _ _ refl r p f (stack_fewer ks (forks_behind ks u.calls))

  pub all_done :
      (r₁ : Filed) → Pushes u u₁ r₁ (forks_behind ks u.calls) → r₁ ≡ Done → (v : Units) (r : Filed) → Pushes u₁ v r (stack_before ks u₁.calls) →
      Pushes u v r (stack_before ks (forks_behind ks u.calls))
  all_done r₁ p d v r s =
      let e : stack_before ks u₁.calls ≡ stack_before ks (forks_behind ks u.calls) = ap (stack_before ks) (added u u₁ r₁ _ p d) in
      record { answer = s.answer ∙ ap (λ (x : Calls). cond (fit x) Done NoRoom) e; calls = λ f. s.calls (ap fit e ∙ f) ∙ e; others = s.others ∙ p.others }

-- ---- the calls of an output

calls_by_row : (l : List ℕ) (o : ℕ) (q : Calls) → push_calls (net l) (some o) q ≡ stack_before (calls_in l (first_call l o) (call_count l o)) (forks_behind (calls_in l (first_call l o) (call_count l o)) q)
unfolding push_calls stack_before forks_behind calls_in
calls_by_row l o q = rw (calls_row l o)

module _ (l : List ℕ) (o n : ℕ) (q : Calls) (en : n ≡ call_count l o) where
  row_is : (a : ℕ) → a ≡ first_call l o → push_calls (net l) (some o) q ≡ stack_before (calls_in l a n) (forks_behind (calls_in l a n) q)
  row_is a ea = calls_by_row l o q ∙ sym (ap₂ (λ (x y : ℕ). stack_before (calls_in l x y) (forks_behind (calls_in l x y) q)) ea en)

pub no_call : (l : List ℕ) (o n : ℕ) (bs : List ℕ) → (n ≡ call_count l o) × (n < 65536) → n ≡ 0 → Pushes (units (net l) bs) (units (net l) bs) Done (push_calls (net l) (some o) (units (net l) bs).calls)
no_call l o n bs en z =
    let u = units (net l) bs in
    let e : push_calls (net l) (some o) u.calls ≡ u.calls =
    row_is l o n u.calls en.0 (first_call l o) refl
    ∙ ap (λ (ks : List Call). stack_before ks (forks_behind ks u.calls)) (ap (calls_in l (first_call l o)) z ∙ row_none l (first_call l o))
    ∙ stack_nothing (forks_behind [] u.calls)
    ∙ forks_nothing u.calls
    in
    rw e (pushes_done u u u.calls (held_fit (net l) bs) refl refl)

row_single : (l : List ℕ) (a : ℕ) → calls_in l a 1 ≡ call_of (target l a) ∷ []
unfolding calls_in from
row_single l a = refl

module _ (l : List ℕ) (o n a : ℕ) (en : (n ≡ call_count l o) × (n < 65536)) (ea : (a ≡ first_call l o) × (a < 65536)) (u v : Units) (r : Filed) where
  pub single_call : (t : ℕ) → n ≡ 1 → t ≡ target l a → Pushes u v r (stack_before (call_of t ∷ []) (forks_behind (call_of t ∷ []) u.calls)) → Pushes u v r (push_calls (net l) (some o) u.calls)
  single_call t z et p =
      let e : push_calls (net l) (some o) u.calls ≡ stack_before (call_of t ∷ []) (forks_behind (call_of t ∷ []) u.calls) =
      row_is l o n u.calls en.0 a ea.0
      ∙ ap (λ (ks : List Call). stack_before ks (forks_behind ks u.calls)) (ap (calls_in l a) z ∙ row_single l a ∙ ap (λ (x : ℕ). call_of x ∷ []) (sym et))
      in
      rw e p

  pub several_calls : Pushes u v r (stack_before (calls_in l a n) (forks_behind (calls_in l a n) u.calls)) → Pushes u v r (push_calls (net l) (some o) u.calls)
  several_calls p = rw (row_is l o n u.calls en.0 a ea.0) p

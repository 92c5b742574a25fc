-- Chains that were made from none have the members that belong to them.
use Prim.Native.Nat.{ℕ, zero, suc, ◌+◌, ◌-◌, ◌≤◌, ◌<◌}
use mathlib.Core.Path.{◌≡◌, refl, sym, ap, ◌∙◌}
use mathlib.Core.Bool.{Bool, true, false}
use mathlib.Core.List.{List, [], ◌∷◌, map, map-id}
use native.Mathlib.Nat.{sub-zero}
use native.Mathlib.Omega.{arith}
use borrow.Author.Tests.{lt-ltb, le-ltb, ne_eqb, eqb-true, eqb-false}
use lib.Dec.{eqb}
use lib.ListN.{length, get_or, set, length-set, length-replicate, get_or-replicate}
use lib.Seq.{get_or-set_same, get_or-set_other, sets}
use Rattle.model.specs.Base.{if◌then◌otherwise◌, keep, joined, from}
use Rattle.model.proofs.Lists.{from_length, from_first, from_none}
use Rattle.links.specs.Links.{rows_at, readers_at, calls_at, listed, packed}
use Rattle.links.proofs.Tables.{shares}
use Rattle.linking.specs.Building.{written, below, no_chains, chained, all_chained, chain, chain_at, size_at, target, row_of, members, lists_written}
use Rattle.linking.specs.declared.chains.Chains.{Chains}
use Rattle.linking.proofs.Loops.{below_same}
use Rattle.linking.proofs.Elements.{listed_same, map_same, joined_length}

-- ---- a chain as a relation: from p on it has the members l, which ascend from `low` on

data Chain (next : List ℕ) : ℕ → ℕ → List ℕ → Type 0 where
  done : {low p : ℕ} → 640 ≤ p → Chain next low p []
  link : {low i : ℕ} {l : List ℕ} → low ≤ i → i < 640 → Chain next (suc i) (get_or next i 0) l → Chain next low i (i ∷ l)

-- a store below all of its members leaves a chain as it is
chain_set : {next : List ℕ} {low p : ℕ} {l : List ℕ} (a v : ℕ) → a < low → Chain next low p l → Chain (set next a v) low p l
chain_set a v h (done {low = low} {p = p} q) = done {low = low} {p = p} q
chain_set {next} a v h (link {low = low} {i = i} {l = l} q m t) =
    link {low = low} {i = i} {l = l} q m (rw (get_or-set_other next a i v 0 (omega arith)) (chain_set a v (omega arith) t))

-- a chain that ascends from `low` on does so from any number below it
weaken : {next : List ℕ} {low p : ℕ} {l : List ℕ} (k : ℕ) → k ≤ low → Chain next low p l → Chain next k p l
weaken k h (done {low = low} {p = p} q) = done {low = k} {p = p} q
weaken k h (link {low = low} {i = i} {l = l} q m t) = link {low = k} {i = i} {l = l} (omega arith) m t

-- a walk of n members at most finds them all
chain_is : {next : List ℕ} {low p : ℕ} {l : List ℕ} (n : ℕ) → length next ≡ 640 → length l ≤ n → Chain next low p l → chain next n p ≡ l
unfolding chain
chain_is zero e h (done q) = refl
chain_is zero e h (link q m t) = absurd (omega arith)
chain_is {next} (suc n) e h (done {low = low} {p = p} q) = rw (le-ltb p (length next) (omega arith), chain)
chain_is {next} (suc n) e h (link {low = low} {i = i} {l = l} q m t) =
    rw (lt-ltb i (length next) (omega arith), chain) (ap (λ (r : List ℕ). i ∷ r) (chain_is n e (omega arith) t))

-- ---- lists

module _ {A : Type 0} where
  pub keep_length : (p : A → Bool) (xs : List A) → length (keep p xs) ≤ length xs
  unfolding keep if◌then◌otherwise◌
  keep_length p [] = omega arith
  keep_length p (x ∷ xs) = go (p x) (keep_length p xs)
    where
      go : (b : Bool) → length (keep p xs) ≤ length xs → length {A = A} (if b then x ∷ keep p xs otherwise keep p xs) ≤ suc (length xs)
      go true h = omega arith
      go false h = omega arith

-- ---- all chains

-- the members from j on
abbrev rest : (ℕ → ℕ) → ℕ → ℕ → ℕ → List ℕ
rest key n j o = keep (λ i. eqb (key i) o) (from j (n - j))

-- so far as the numbers from j on go
record Made (key : ℕ → ℕ) (n : ℕ) (c : Chains) (j : ℕ) : Type 0 where
  pub heads : length c.heads ≡ 576
  pub next : length c.next ≡ 640
  pub each : (o : ℕ) → o < 576 → Chain c.next j (get_or c.heads o 0) (rest key n j o)

-- one more number
turn : (key : ℕ → ℕ) (n : ℕ) → n ≤ 640 → (c : Chains) (j : ℕ) → j < n → Made key n c (j + 1) → Made key n (chained c j (key j)) j
unfolding chained keep if◌then◌otherwise◌
turn key n short c j h m =
    record {
      heads = length-set c.heads (key j) j ∙ m.heads;
      next = length-set c.next j (get_or c.heads (key j) 0) ∙ m.next;
      each = λ o l. rw (from_first j n h) (go o l (eqb (key j) o) refl (rest key n (j + 1) o) (m.each o l));
    }
  where
    hs : List ℕ
    hs = c.heads

    ns : List ℕ
    ns = c.next

    e : j + 1 ≡ suc j
    e = omega arith

    go :
        (o : ℕ) → o < 576 → (b : Bool) → eqb (key j) o ≡ b → (l : List ℕ) → Chain ns (j + 1) (get_or hs o 0) l →
        Chain (set ns j (get_or hs (key j) 0)) j (get_or (set hs (key j) j) o 0) (if b then j ∷ l otherwise l)
    go o lo true q l t =
        let s : key j ≡ o = eqb-true (key j) o q in
        let long : o < length hs = omega (arith, m.heads) in
        let far : j < length ns = omega (arith, m.next) in
        rw (s, get_or-set_same hs o j 0 long)
        (link {low = j} {i = j} {l = l} (omega arith) (omega arith)
        (rw (get_or-set_same ns j (get_or hs o 0) 0 far) (chain_set j (get_or hs o 0) (omega arith) (rw e at t))))
    go o lo false q l t =
        rw (get_or-set_other hs (key j) o j 0 (λ s. eqb-false (key j) o q (sym s)))
        (weaken j (omega arith) (chain_set j (get_or hs (key j) 0) (omega arith) t))

-- all numbers below j more
made : (key : ℕ → ℕ) (n : ℕ) → n ≤ 640 → (c : Chains) (j : ℕ) → j ≤ n → Made key n c j → Made key n (all_chained key j c) 0
unfolding all_chained
made key n short c zero h m = m
made key n short c (suc j) h m =
    let e : suc j ≡ j + 1 = omega arith in
    made key n short (chained c j (key j)) j (omega arith) (turn key n short c j h (rw e at m))

-- before the first
none_made : (key : ℕ → ℕ) (n : ℕ) → Made key n no_chains n
unfolding keep
none_made key n =
    record {
      heads = length-replicate {A = ℕ} 576 640;
      next = length-replicate {A = ℕ} 640 640;
      each = λ o l. rw (get_or-replicate {A = ℕ} 576 o 640 0 l, from_none n n (omega arith)) (done {low = n} {p = 640} (omega arith));
    }

-- so each chain has the numbers whose key it is, ascending
pub chain_members : (key : ℕ → ℕ) (n : ℕ) → n ≤ 640 → (c : Chains) → c ≡ all_chained key n no_chains → (o : ℕ) → o < 576 → chain_at c o ≡ members key n o
unfolding chain_at members
chain_members key n short c e o l =
    let m = made key n short no_chains n (omega arith) (none_made key n) in
    let s : length (keep (λ i. eqb (key i) o) (from 0 n)) ≤ 640 = omega (arith, keep_length (λ i. eqb (key i) o) (from 0 n), from_length 0 n) in
    rw e (chain_is 640 m.next s (rw (sub-zero n) at (m.each o l)))

-- ---- how many there are

-- all chains together have no more members than there are numbers
pub members_most : (key : ℕ → ℕ) (n m : ℕ) → below (λ o. length (members key n o)) m ≤ n
unfolding members listed
members_most key n m =
    omega (
      arith,
      joined_length m (members key n),
      shares (λ o i. eqb (key i) o) (λ i o p h k. sym (eqb-true (key i) o h) ∙ eqb-true (key i) p k) 0 m (from 0 n),
      from_length 0 n,
    )

-- ---- what `link_lists` cites

pub rows_small : (key : ℕ → ℕ) (n m : ℕ) (c : Chains) → n ≤ 640 → m ≤ 576 → c ≡ all_chained key n no_chains → below (size_at c) m < 65536
unfolding size_at
rows_small key n m c h l e =
    omega (arith, below_same (size_at c) (λ o. length (members key n o)) m (λ o k. ap (λ (r : List ℕ). length r) (chain_members key n h c e o (omega arith))), members_most key n m)

-- a list that is written with its members' targets
targets_of : (key : ℕ → ℕ) (n m t : ℕ) (ws : List ℕ) (c : Chains) → n ≤ 640 → m ≤ 576 → 0 < t → c ≡ all_chained key n no_chains →
    listed m (λ o. map (target ws t) (chain_at c o)) ≡ listed m (λ o. map (λ i. get_or ws (t + i) 0) (members key n o))
unfolding target if◌then◌otherwise◌
targets_of key n m t ws c h l p e =
    listed_same m (λ o. map (target ws t) (chain_at c o)) (λ o. map (λ i. get_or ws (t + i) 0) (members key n o))
    (λ o k. map_same (target ws t) (λ i. get_or ws (t + i) 0) (λ i. rw (ne_eqb t 0 (λ z. omega arith))) (chain_at c o)
    ∙ ap (λ (r : List ℕ). map (λ i. get_or ws (t + i) 0) r) (chain_members key n h c e o (omega arith)))

-- or with the members themselves
itself_of : (key : ℕ → ℕ) (n m : ℕ) (ws : List ℕ) (c : Chains) → n ≤ 640 → m ≤ 576 → c ≡ all_chained key n no_chains →
    listed m (λ o. map (target ws 0) (chain_at c o)) ≡ listed m (members key n)
unfolding target if◌then◌otherwise◌
itself_of key n m ws c h l e =
    listed_same m (λ o. map (target ws 0) (chain_at c o)) (members key n) (λ o k. map-id (chain_at c o) ∙ chain_members key n h c e o (omega arith))

-- the rows
rows_of : (f g f₁ g₁ : ℕ → ℕ) (m : ℕ) → ((o : ℕ) → o < m → f o ≡ f₁ o) → ((o : ℕ) → o < m → g o ≡ g₁ o) → listed m (row_of f g) ≡ listed m (row_of f₁ g₁)
unfolding row_of
rows_of f g f₁ g₁ m p q =
    listed_same m (row_of f g) (row_of f₁ g₁)
    (λ o l. λ j. packed (below_same f f₁ o (λ k h. p k (omega arith)) j) (p o l j) (below_same g g₁ o (λ k h. q k (omega arith)) j) (q o l j))

pub lists_are : (ws : List ℕ) (s n t k m : ℕ) (c d : Chains) (l l₁ l₂ l₃ : List ℕ) → n ≤ 640 → 0 < t → k ≤ 640 → m ≤ 576 →
    c ≡ all_chained (λ i. get_or ws (s + i) 0) n no_chains → d ≡ all_chained (λ i. get_or ws (t + i) 0) k no_chains →
    l₁ ≡ sets l readers_at (joined (listed m (λ o. map (target ws 0) (chain_at c o)))) →
    l₂ ≡ sets l₁ calls_at (joined (listed m (λ o. map (target ws (t + k)) (chain_at d o)))) →
    l₃ ≡ written l₂ rows_at m (row_of (size_at c) (size_at d)) → l₃ ≡ lists_written ws s n t k m l
unfolding lists_written size_at
lists_are ws s n t k m c d l l₁ l₂ l₃ hn ht hk hm ec ed e₁ e₂ e₃ =
    let key : ℕ → ℕ = λ i. get_or ws (s + i) 0 in
    let from : ℕ → ℕ = λ i. get_or ws (t + i) 0 in
    e₃
    ∙ ap (λ (r : List ℕ). sets l₂ rows_at r)
    (rows_of (size_at c) (size_at d) (λ o. length (members key n o)) (λ o. length (members from k o)) m
    (λ o h. ap (λ (r : List ℕ). length r) (chain_members key n hn c ec o (omega arith)))
    (λ o h. ap (λ (r : List ℕ). length r) (chain_members from k hk d ed o (omega arith))))
    ∙ ap (λ (r : List ℕ). written r rows_at m (row_of (λ o. length (members key n o)) (λ o. length (members from k o))))
    (e₂
    ∙ ap (λ (r : List (List ℕ)). sets l₁ calls_at (joined r)) (targets_of from k m (t + k) ws d hk hm (omega arith) ed)
    ∙ ap (λ (r : List ℕ). sets r calls_at (joined (listed m (λ o. map (λ i. get_or ws (t + k + i) 0) (members from k o)))))
    (e₁ ∙ ap (λ (r : List (List ℕ)). sets l readers_at (joined r)) (itself_of key n m ws c hn hm ec)))

-- Laws of parallel lists and of loops over numbers in a row.
use Rattle.std.proofs.Common.{◌≡◌, ℕ, zero, suc, ◌+◌, ◌-◌, ◌*◌, ◌<◌, ◌≤◌, Bool, true, false, List, [], ◌∷◌, map, length, get_or, set, sym, refl, ap, ◌∙◌, add_comm, mul-zero, mul-suc, arith}
use Rattle.words.specs.Bits.{places}
use Rattle.model.proofs.Lists.{each_keeps}
use Rattle.model.specs.Base.{each, from, both}

-- ---- parallel lists

pub both_set : {A B C : Type 0} (f : A → B → C) (xs : List A) (ys : List B) (i : ℕ) (x : A) (y : B) → both f (set xs i x) (set ys i y) ≡ set (both f xs ys) i (f x y)
unfolding both
both_set f [] [] i x y = refl
both_set f [] (b ∷ ys) zero x y = refl
both_set f [] (b ∷ ys) (suc i) x y = refl
both_set f (a ∷ xs) [] zero x y = refl
both_set f (a ∷ xs) [] (suc i) x y = refl
both_set f (a ∷ xs) (b ∷ ys) zero x y = refl
both_set f (a ∷ xs) (b ∷ ys) (suc i) x y = ap (λ (l : List _). f a b ∷ l) (both_set f xs ys i x y)

pub both_get : {A B C : Type 0} (f : A → B → C) (xs : List A) (ys : List B) (i : ℕ) (x : A) (y : B) (z : C) → i < length xs → i < length ys → get_or (both f xs ys) i z ≡ f (get_or xs i x) (get_or ys i y)
unfolding both
both_get f [] ys i x y z h k = absurd (omega arith)
both_get f (a ∷ xs) [] i x y z h k = absurd (omega arith)
both_get f (a ∷ xs) (b ∷ ys) zero x y z h k = refl
both_get f (a ∷ xs) (b ∷ ys) (suc i) x y z h k = both_get f xs ys i x y z (omega arith) (omega arith)

-- ---- loops over numbers in a row

-- what is left of a loop from a on, n times, at turn k
abbrev pub left_of : {B : Type 0} → (B → ℕ → B) → B → ℕ → ℕ → ℕ → B
left_of f b a n k = each f b (from (a + k) (n - k))

module _ {B : Type 0} (f : B → ℕ → B) (b : B) (a n : ℕ) where
  pub turn_first : left_of f b a n 0 ≡ each f b (from a n)
  turn_first =
      let p : a + 0 ≡ a = omega arith in
      let q : n - 0 ≡ n = omega arith in
      rw (p, q)

  pub turn_next : (b₁ x : B) (k : ℕ) → k < n → b₁ ≡ f b (a + k) → left_of f b a n k ≡ x → left_of f b₁ a n (k + 1) ≡ x
  unfolding each from
  turn_next b₁ x k h e i =
      let p : n - k ≡ suc (n - (k + 1)) = omega arith in
      let q : a + (k + 1) ≡ suc (a + k) = omega arith in
      rw (e, q) (rw p at i)

  pub turn_zero : (b₁ x : B) (k : ℕ) → a ≡ 0 → k < n → b₁ ≡ f b k → left_of f b a n k ≡ x → left_of f b₁ a n (k + 1) ≡ x
  turn_zero b₁ x k z h e i = let p : a + k ≡ k = omega arith in turn_next b₁ x k h (e ∙ ap (f b) (sym p)) i

  pub turn_last : (x : B) (k : ℕ) → n ≤ k → left_of f b a n k ≡ x → b ≡ x
  unfolding each from
  turn_last x k h i = let p : n - k ≡ 0 = omega arith in rw p at i

-- each of what numbers are mapped to
pub each_map : {A B C : Type 0} (f : B → C → B) (h : A → C) (b : B) (xs : List A) → each f b (map h xs) ≡ each (λ u x. f u (h x)) b xs
unfolding each
each_map f h b [] = refl
each_map f h b (x ∷ xs) = each_map f h (f b (h x)) xs

-- A step that changes nothing at places without a mark, whatever steps came before, need be made at the marks alone.
pub each_marked :
    {B : Type 0} (P : B → Type 0) (f : B → ℕ → B) → ((b : B) (i : ℕ) → P b → P (f b i)) → (n : ℕ) (bs : List Bool) →
    ((b : B) (i : ℕ) → get_or bs i true ≡ false → P b → f b (n + i) ≡ b) → (b : B) → P b → each f b (from n (length bs)) ≡ each f b (places n bs)
unfolding each from places
each_marked P f k n [] h b p = refl
each_marked P f k n (true ∷ bs) h b p =
    each_marked P f k (suc n) bs (λ u i e q. ap (f u) (let z : suc n + i ≡ n + suc i = omega arith in z) ∙ h u (suc i) e q) (f b n) (k b n p)
each_marked P f k n (false ∷ bs) h b p =
    let z : n + 0 ≡ n = omega arith in
    let same : f b n ≡ b = ap (f b) (sym z) ∙ h b 0 refl p in
    ap (λ (u : _). each f u (from (suc n) (length bs))) same
    ∙ each_marked P f k (suc n) bs (λ u i e q. ap (f u) (let y : suc n + i ≡ n + suc i = omega arith in y) ∙ h u (suc i) e q) b p

-- steps that change nothing
each_idle :
    {B : Type 0} (P : B → Type 0) (f : B → ℕ → B) (n k : ℕ) → ((b : B) (i : ℕ) → n ≤ i → P b → f b i ≡ b) → (b : B) → P b → each f b (from n k) ≡ b
unfolding each from
each_idle P f n zero h b p = refl
each_idle P f n (suc k) h b p =
    ap (λ (u : _). each f u (from (suc n) k)) (h b n (omega arith) p) ∙ each_idle P f (suc n) k (λ u i l q. h u i (omega arith) q) b p

each_cut : {B : Type 0} (f : B → ℕ → B) (b : B) (n a k : ℕ) → each f b (from n (a + k)) ≡ each f (each f b (from n a)) (from (n + a) k)
unfolding each from
each_cut f b n zero k =
    let p : zero + k ≡ k = omega arith in
    let q : n + zero ≡ n = omega arith in
    rw (p, q)
each_cut f b n (suc a) k =
    let p : suc a + k ≡ suc (a + k) = omega arith in
    let q : n + suc a ≡ suc n + a = omega arith in
    rw (p, q) (each_cut f (f b n) (suc n) a k)

-- the first n numbers, where those from k on change nothing
pub each_fewer :
    {B : Type 0} (P : B → Type 0) (f : B → ℕ → B) → ((b : B) (i : ℕ) → P b → P (f b i)) → (k n : ℕ) → k ≤ n →
    ((b : B) (i : ℕ) → k ≤ i → P b → f b i ≡ b) → (b : B) → P b → each f b (from 0 n) ≡ each f b (from 0 k)
each_fewer P f kept k n l past b p =
    let e : k + (n - k) ≡ n = omega arith in
    ap (λ (m : ℕ). each f b (from 0 m)) (sym e)
    ∙ each_cut f b 0 k (n - k)
    ∙ each_idle P f (0 + k) (n - k) (λ u i h q. past u i (omega arith) q) (each f b (from 0 k)) (each_keeps P f kept b (from 0 k) p)

-- the first k numbers, by the marks of a list that may go further
pub each_by_marks :
    {B : Type 0} (P : B → Type 0) (f : B → ℕ → B) → ((b : B) (i : ℕ) → P b → P (f b i)) → (k : ℕ) (bs : List Bool) → k ≤ length bs →
    ((b : B) (i : ℕ) → k ≤ i → P b → f b i ≡ b) → ((b : B) (i : ℕ) → get_or bs i true ≡ false → P b → f b i ≡ b) →
    (b : B) → P b → each f b (places 0 bs) ≡ each f b (from 0 k)
each_by_marks P f kept k bs l past other b p =
    sym (each_marked P f kept 0 bs (λ u i q r. ap (f u) (let z : 0 + i ≡ i = omega arith in z) ∙ other u i q r) b p)
    ∙ each_fewer P f kept k (length bs) l past b p

-- numbers counted from n on
pub each_shift : {B : Type 0} (f : B → ℕ → B) (b : B) (n m k : ℕ) → each (λ (u : B) (i : ℕ). f u (n + i)) b (from m k) ≡ each f b (from (n + m) k)
unfolding each from
each_shift f b n m zero = refl
each_shift f b n m (suc k) =
    let e : n + suc m ≡ suc (n + m) = omega arith in
    each_shift f (f b (n + m)) n (suc m) k ∙ ap (λ (x : ℕ). each f (f b (n + m)) (from x k)) e

-- blocks of s numbers
pub each_blocks : {B : Type 0} (f : B → ℕ → B) (b : B) (s m k : ℕ) → each (λ (u : B) (j : ℕ). each f u (from (s * j) s)) b (from m k) ≡ each f b (from (s * m) (s * k))
unfolding each from
each_blocks f b s m zero = rw (mul-zero s)
each_blocks f b s m (suc k) =
    let e : s * suc k ≡ s + s * k = mul-suc s k ∙ add_comm (s * k) s in
    rw (e, each_cut f b (s * m) s (s * k)) (each_blocks f (each f b (from (s * m) s)) s (suc m) k ∙ rw (mul-suc s m))

-- ---- loops over the items of an iterator

module _ {B : Type 0} (f : B → ℕ → B) (b x : B) (is : List ℕ) where
  pub items_first : (js : List ℕ) → js ≡ is → each f b is ≡ x → each f b js ≡ x
  items_first js e h = ap (each f b) e ∙ h

  pub item_next : (b₁ : B) (i : ℕ) (js : List ℕ) → is ≡ i ∷ js → b₁ ≡ f b i → each f b is ≡ x → each f b₁ js ≡ x
  unfolding each
  item_next b₁ i js e q h = ap (λ (u : B). each f u js) q ∙ sym (ap (each f b) e) ∙ h

  pub items_over : is ≡ [] → each f b is ≡ x → b ≡ x
  unfolding each
  items_over e h = sym (ap (each f b) e) ∙ h

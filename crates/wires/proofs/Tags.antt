-- The two words that hold a value, and what the code makes of them.
use Rattle.std.proofs.Common.{◌≡◌, ℕ, zero, suc, ◌+◌, ◌*◌, ◌/◌, ◌%◌, ◌^◌, ◌<◌, true, false, not, eqb, sym, refl, ap, ◌∙◌, mod-eq_of_lt, arith}
use lib.Bits.{bit_and, bit_or, bit_xor, and_zero_r, and_mask}
use Rattle.model.specs.declared.Value.{Value}
use Rattle.model.specs.declared.Value.TheVariants.{Nothing, Int, Float, Bool as Truth}
use Rattle.model.specs.Value.{bit, kind_of, content_of}
use Rattle.wires.specs.Held.{held_by, held, tag_of}

-- what is written for a value holds it
pub held_again : (v : Value) → held (tag_of v) (content_of v) ≡ v
unfolding held held_by tag_of content_of bit
held_again Nothing = refl
held_again (Int b) = refl
held_again (Float b) = refl
held_again (Truth false) = refl
held_again (Truth true) = refl

-- the tag of a kind
pub tag_made : (k : ℕ) (v : Value) → k ≡ kind_of v → bit_xor k (k / 2) ≡ tag_of v
unfolding kind_of tag_of
tag_made k v e = ap (λ (x : ℕ). bit_xor x (x / 2)) e ∙ tag_by v
  where
    tag_by : (v : Value) → bit_xor (kind_of v) (kind_of v / 2) ≡ tag_of v
    tag_by Nothing = refl
    tag_by (Int b) = refl
    tag_by (Float b) = refl
    tag_by (Truth b) = refl

-- a tag with these last two digits
pub held_at : (t b j : ℕ) → t % 4 ≡ j → held_by j b ≡ held t b
unfolding held
held_at t b j e = ap (λ (x : ℕ). held_by x b) (sym e)

pub held_float : (t b : ℕ) → (t % 2 ≡ 0 → ⊥) → (t % 4 ≡ 1 → ⊥) → Float b ≡ held t b
unfolding held_by
held_float t b f g =
    let e : t % 4 ≡ 3 = omega (arith, f, g) in
    held_at t b 3 e

pub held_bool : (t b : ℕ) → t % 2 ≡ 0 → (t % 4 ≡ 0 → ⊥) → Truth (not (eqb (b % 2) 0)) ≡ held t b
unfolding held_by
held_bool t b e f =
    let d : t % 4 ≡ 2 = omega (arith, e, f) in
    held_at t b 2 d

-- the kind, by the last two digits
kind_by : (j b : ℕ) → j < 4 → bit_xor j (j / 2) ≡ kind_of (held_by j b)
unfolding held_by kind_of
kind_by zero b h = refl
kind_by (suc zero) b h = refl
kind_by (suc (suc zero)) b h = refl
kind_by (suc (suc (suc zero))) b h = refl
kind_by (suc (suc (suc (suc j)))) b h = absurd (omega arith)

pub kind_digits : (t b : ℕ) → bit_xor (t % 4) (t % 4 / 2) ≡ kind_of (held t b)
unfolding held
kind_digits t b = kind_by (t % 4) b (omega arith)

-- the content under a mask, by the digits x and y of the tag
digit_again : (d : ℕ) → d < 2 → d ≡ bit (not (eqb d 0))
unfolding bit
digit_again zero h = refl
digit_again (suc zero) h = refl
digit_again (suc (suc d)) h = absurd (omega arith)

content_by : (x y b w : ℕ) → x < 2 → y < 2 → b < 2 ^ 64 → w < 2 ^ 64 → (w + x) % 2 ^ 64 ≡ 0 → bit_and b (bit_or w y) ≡ content_of (held_by (x + 2 * y) b)
unfolding held_by content_of
content_by zero zero b w hx hy hb hw e =
    let z : w ≡ 0 = omega arith in
    rw z (and_zero_r b)
content_by zero (suc zero) b w hx hy hb hw e =
    let z : w ≡ 0 = omega arith in
    rw z (and_mask b 1 ∙ digit_again (b % 2) (omega arith))
content_by (suc zero) zero b w hx hy hb hw e =
    let z : w ≡ 18446744073709551615 = omega arith in
    rw z (and_mask b 64 ∙ mod-eq_of_lt hb)
content_by (suc zero) (suc zero) b w hx hy hb hw e =
    let z : w ≡ 18446744073709551615 = omega arith in
    rw z (and_mask b 64 ∙ mod-eq_of_lt hb)
content_by zero (suc (suc y)) b w hx hy hb hw e = absurd (omega arith)
content_by (suc zero) (suc (suc y)) b w hx hy hb hw e = absurd (omega arith)
content_by (suc (suc x)) y b w hx hy hb hw e = absurd (omega arith)

pub content_masked : (t b w : ℕ) → b < 2 ^ 64 → w < 2 ^ 64 → (w + t % 2) % 2 ^ 64 ≡ 0 → bit_and b (bit_or w (t / 2 % 2)) ≡ content_of (held t b)
unfolding held
content_masked t b w hb hw e =
    let j : t % 4 ≡ t % 2 + 2 * (t / 2 % 2) = omega arith in
    rw j (content_by (t % 2) (t / 2 % 2) b w (omega arith) (omega arith) hb hw e)

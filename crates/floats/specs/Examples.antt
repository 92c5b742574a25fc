-- Cases of the definitions, computed.
use Rattle.std.specs.Prelude.{◌≡◌, ◌+◌, ◌-◌, ◌^◌, true, false, [], ◌∷◌, map, pos, negsuc, refl}
use Rattle.model.specs.Value.{narrow, narrow_changes, float_of_int, to_int, value_opened}

-- 0.1; 1 + 2^-24, a tie down to 1; 1 + 3 * 2^-24, a tie up to 1 + 2^-22; 2^-150, a tie down to 0; 2^128 - 2^103, a tie up to infinity
narrowed : map narrow (0x3FB9_9999_9999_999A ∷ 0x3FF0_0000_1000_0000 ∷ 0x3FF0_0000_3000_0000 ∷ 0x3690_0000_0000_0000 ∷ 0x47EF_FFFF_F000_0000 ∷ [])
    ≡ 0x3DCC_CCCD ∷ 0x3F80_0000 ∷ 0x3F80_0002 ∷ 0 ∷ 0x7F80_0000 ∷ []
unfolding value_opened
narrowed = refl

-- just above 2^-150; just below 2^128 - 2^103; the largest subnormal f32, and a tie between it and the least normal one; the least f64, negative; -infinity; a NaN
narrowed_at_borders : map narrow (0x3690_0000_0000_0001 ∷ 0x47EF_FFFF_EFFF_FFFF ∷ 0x380F_FFFF_C000_0000 ∷ 0x380F_FFFF_E000_0000 ∷ 0x8000_0000_0000_0001 ∷ 0xFFF0_0000_0000_0000 ∷ 0xFFF0_0000_0000_0001 ∷ [])
    ≡ 1 ∷ 0x7F7F_FFFF ∷ 0x007F_FFFF ∷ 0x0080_0000 ∷ 0x8000_0000 ∷ 0xFF80_0000 ∷ 0x7FC0_0000 ∷ []
unfolding value_opened
narrowed_at_borders = refl

-- Of these only the largest subnormal f32 and -infinity stay the same number. So do -0.0, the smallest f32 and the largest; 2^128, all of whose last 29 digits are 0, does not.
changed_at_borders : map narrow_changes (0x3690_0000_0000_0001 ∷ 0x47EF_FFFF_EFFF_FFFF ∷ 0x380F_FFFF_C000_0000 ∷ 0x380F_FFFF_E000_0000 ∷ 0x8000_0000_0000_0001 ∷ 0xFFF0_0000_0000_0000 ∷ 0xFFF0_0000_0000_0001 ∷ [])
    ≡ true ∷ true ∷ false ∷ true ∷ true ∷ false ∷ true ∷ []
unfolding value_opened
changed_at_borders = refl

changed_beside : map narrow_changes (0x8000_0000_0000_0000 ∷ 0x36A0_0000_0000_0000 ∷ 0x47EF_FFFF_E000_0000 ∷ 0x47F0_0000_0000_0000 ∷ []) ≡ false ∷ false ∷ false ∷ true ∷ []
unfolding value_opened
changed_beside = refl

-- 2^63 and the f64 below it; -2^63 and its two neighbours; 0.5, -0.5, -1.5, -0.0; the infinities; a NaN. negsuc n is -1 - n.
to_ints : map to_int (0x43E0_0000_0000_0000 ∷ 0x43DF_FFFF_FFFF_FFFF ∷ 0xC3E0_0000_0000_0000 ∷ 0xC3DF_FFFF_FFFF_FFFF ∷ 0xC3E0_0000_0000_0001 ∷ 0x3FE0_0000_0000_0000 ∷ 0xBFE0_0000_0000_0000 ∷ 0xBFF8_0000_0000_0000 ∷ 0x8000_0000_0000_0000 ∷ 0x7FF0_0000_0000_0000 ∷ 0xFFF0_0000_0000_0000 ∷ 0x7FF8_0000_0000_0000 ∷ [])
    ≡ pos (2 ^ 63 - 1) ∷ pos (2 ^ 63 - 1024) ∷ negsuc (2 ^ 63 - 1) ∷ negsuc (2 ^ 63 - 1025) ∷ negsuc (2 ^ 63 - 1) ∷ pos 0 ∷ pos 0 ∷ negsuc 0 ∷ pos 0 ∷ pos (2 ^ 63 - 1) ∷ negsuc (2 ^ 63 - 1) ∷ pos 0 ∷ []
unfolding value_opened
to_ints = refl

-- 2^53 + 1, a tie down to 2^53; 2^53 + 3, a tie up to 2^53 + 4; the largest Int, up to 2^63; the smallest, exact; 0 and -1
of_ints : map float_of_int (pos (2 ^ 53 + 1) ∷ pos (2 ^ 53 + 3) ∷ pos (2 ^ 63 - 1) ∷ negsuc (2 ^ 63 - 1) ∷ pos 0 ∷ negsuc 0 ∷ [])
    ≡ 0x4340_0000_0000_0000 ∷ 0x4340_0000_0000_0002 ∷ 0x43E0_0000_0000_0000 ∷ 0xC3E0_0000_0000_0000 ∷ 0 ∷ 0xBFF0_0000_0000_0000 ∷ []
unfolding value_opened
of_ints = refl

-- What a random word draws.
use Rattle.std.proofs.Common.{◌≡◌, ℕ, ◌+◌, ◌^◌, ◌<◌, ◌≤◌, ap, ◌∙◌, arith, mul-le-mul_left}
use Rattle.std.proofs.Math.Nat.{div-lt_iff_lt-mul}
use Rattle.rand_core.specs.Stream.{Stream, next_u32}
use Rattle.tt_draw.specs.Draws.{drawn_place}
use Rattle.tt_deluge.specs.Draws.{draw_next}

-- the number that the next word draws, and the words after it
pub draw_is : (count word place : ℕ) (random left : Stream) → (word, left) ≡ next_u32 random → place ≡ drawn_place word count → (place, left) ≡ draw_next count random
draw_is count word place random left next at = ap (λ (n : ℕ). (n, left)) at ∙ ap (λ (d : ℕ × Stream). (drawn_place d.0 count, d.1)) next

-- it is below the count
pub drawn_below : (word count : ℕ) → word < 2 ^ 32 → 0 < count → drawn_place word count < count
drawn_below word count few some =
    let up = mul-le-mul_left count (suc_le word few) in
    (div-lt_iff_lt-mul {k = 2 ^ 32} (omega arith)).1 (omega (arith, up, some))
  where
    suc_le : (w : ℕ) → w < 2 ^ 32 → w + 1 ≤ 2 ^ 32
    suc_le w h = omega arith

-- Theorem. What is made with numbers that a generator gives one after another.
use Rattle.std.specs.Prelude.{ℕ, zero, suc, ◌+◌, List, [], ◌∷◌, ◌++◌}
use Rattle.rand_pcg.specs.Lcg.{Lcg}
use Rattle.rand_pcg.specs.Pcg.{pcg32}
use Rattle.tt_draw.specs.Draws.{drawn_place}

-- what is made by drawing, and the generator afterwards
abbrev pub Draws : Type 0 → Type 0
Draws A = Lcg → A × Lcg

infixl 10 ◌>>=◌
-- first the one, then what is made from it
abbrev pub ◌>>=◌ : {A B : Type 0} → Draws A → (A → Draws B) → Draws B
(made >>= next) g = next (made g).0 (made g).1

-- without a draw
abbrev pub give : {A : Type 0} → A → Draws A
give x g = (x, g)

-- a number below k, from the next word
unfoldable pub draw : ℕ → Draws ℕ
draw k g = (drawn_place (pcg32 g).0 k, (pcg32 g).1)

-- what is made for `from` and the numbers after it, `count` in all, in order
unfoldable pub draw_each : {A : Type 0} → ℕ → ℕ → (ℕ → Draws A) → Draws (List A)
draw_each from zero make = give []
draw_each from (suc count) make = do
  before ← draw_each from count make
  last ← make (from + count)
  give (before ++ last ∷ [])

-- Proof. Whether the subparts that are still to come can be filled.
use Rattle.std.specs.Prelude.{ℕ, Bool, true, ◌&&◌, ◌||◌, List}
use Rattle.std.specs.List.{list_all, list_any}
use Rattle.std.specs.Option.{option_map_or}
use Rattle.tt_base.specs.Lists.{is_listed}
use Rattle.tt_problem.specs.declared.parts.Span.{Span}
use Rattle.tt_problem.specs.Spans.{is_in}
use Rattle.tt_choice.specs.Pieces.{places_between}
use Rattle.tt_choice.specs.Least.{Situation}

-- the class has no parent, or its parent is in the front, already taken, or a class of the subparts still to come
abbrev pub may_have_parent : Situation → (front : List ℕ) → (rest : List Span) → ℕ → Bool
may_have_parent s front rest c = option_map_or (λ p. is_listed p front || is_listed p s.already || list_any (is_in p) rest) (s.parent_of c) true

-- the class has a seat, and its parent may come too
abbrev pub may_come : Situation → (front : List ℕ) → (rest : List Span) → ℕ → Bool
may_come s front rest c = s.has_seat c && may_have_parent s front rest c

-- each of the subparts still to come has a class that may come
abbrev pub can_all_be_filled : Situation → (front : List ℕ) → (rest : List Span) → Bool
can_all_be_filled s front rest = list_all (λ t. list_any (may_come s front rest) (places_between t.first t.after)) rest

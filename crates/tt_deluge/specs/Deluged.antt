-- Theorem. The great deluge (Dueck 1993): rounds over classes, pairs of classes and students, each change of which is made where
-- the total after it is at most a level that sinks.
use Rattle.std.specs.Prelude.{ℕ, zero, suc, ◌-◌, ◌*◌, ◌/◌, ◌%◌, ◌&&◌, ◌||◌, ◌==◌, not, nat_le, max, List, [], ◌∷◌, Option, Some, None, length, if◌then◌else◌}
use Rattle.std.specs.List.{best_of}
use Rattle.std.specs.Option.{option_and_then}
use Rattle.rand_core.specs.Stream.{Stream}
use Rattle.tt_base.specs.Lists.{is_less}
use Rattle.tt_draw.specs.Draws.{random_words}
use Rattle.tt_problem.specs.declared.parts.Parts.{Parts}
use Rattle.tt_state.specs.Snapshots.{Snapshot}
use Rattle.tt_improve.specs.Classes.{total_of}
use Rattle.tt_improve.specs.Targets.{movable_classes}
use Rattle.tt_improve.specs.Rounds.{Improvement, round_more}
use Rattle.tt_deluge.specs.Draws.{by_draw, draw_next}
use Rattle.tt_deluge.specs.ClassRounds.{class_round}
use Rattle.tt_deluge.specs.StudentRounds.{choice_drawn, choices_in}

-- what a round finds: first its kind is drawn, and the round is one on a class where no student has a choice, or there is a class
-- and the kind is odd; else one on a course with a choice of a student, which is drawn
unfoldable pub found_by : Parts → Snapshot → Stream → Option Snapshot × Stream
found_by p s random =
    let kind = draw_next 32 random in
    if length (choices_in p s) == 0 || (not (length (movable_classes p s) == 0) && kind.0 % 2 == 1)
    then class_round p s kind.0 kind.1 else by_draw (choices_in p s) (choice_drawn p s) kind.1

-- one round more of n, of a moment on the way, which is the rounds so far with the words to come: what the round finds is made where
-- the total with it is at most the level, which sinks from the first total to 0, but not below the present total
abbrev pub after_round : Parts → (first n : ℕ) → Improvement × Stream → Improvement × Stream
after_round p first n m =
    let found = found_by p m.0.snapshot m.1 in
    let level = max (total_of p m.0.snapshot) (first - first * m.0.rounds / n) in
    let new = option_and_then (λ t. if nat_le (total_of p t) level then Some t else None) found.0 in
    (round_more m.0 new, found.1)

-- the moments after each of so many rounds more of n
unfoldable pub moments_after : Parts → (first n more : ℕ) → Improvement × Stream → List (Improvement × Stream)
moments_after p first n zero m = []
moments_after p first n (suc more) m =
    let next = after_round p first n m in next ∷ moments_after p first n more next

-- the first moment of the way, from the one before the first round on, that has the least total
unfoldable pub best_moment : Parts → (rounds seed : ℕ) → Snapshot → Improvement × Stream
best_moment p rounds seed s =
    let start : Improvement × Stream = (record { snapshot = s; rounds = 0; changed = 0 }, random_words seed) in
    best_of (is_less (λ m. total_of p m.0.snapshot ∷ [])) start
    (moments_after p (total_of p s) rounds rounds start)

-- where a deluge of so many rounds ends, and how many changes lead there; no round is made where there is nothing to change
unfoldable pub deluged : Parts → (rounds seed : ℕ) → Snapshot → Improvement
deluged p rounds seed s =
    if length (movable_classes p s) == 0 && length (choices_in p s) == 0
    then record { snapshot = s; rounds = 0; changed = 0 }
    else record (best_moment p rounds seed s).0 { rounds = rounds }

-- Proof. Pieces of what is said of a deluge.
use Rattle.std.specs.Prelude.{ℕ, ◌-◌, ◌*◌, ◌/◌, ◌%◌, Bool, ◌&&◌, ◌||◌, ◌==◌, not, nat_le, nat_lt, max, List, Option, Some, None, filter, length, if◌then◌else◌}
use Rattle.std.specs.Option.{option_and_then, option_map, option_map_or}
use Rattle.rand_core.specs.Stream.{Stream, next_u32}
use Rattle.tt_draw.specs.Draws.{random_words}
use Rattle.tt_bits.specs.declared.times.Value.{Value}
use Rattle.tt_problem.specs.declared.parts.Parts.{Parts}
use Rattle.tt_problem.specs.declared.parts.Span.{Span}
use Rattle.tt_plan.specs.Domain.{domain_of}
use Rattle.tt_struct.specs.Enrolments.{has_parent}
use Rattle.tt_state.specs.Snapshots.{Snapshot, with_value}
use Rattle.tt_choice.specs.Choices.{choices_at, span_places}
use Rattle.tt_improve.specs.Classes.{total_of}
use Rattle.tt_improve.specs.Rounds.{Improvement}
use Rattle.tt_improve.specs.Targets.{movable_classes}
use Rattle.tt_improve.specs.declared.targets.Target.{Target}
use Rattle.tt_deluge.specs.Draws.{by_draw, draw_next}
use Rattle.tt_deluge.specs.ClassRounds.{class_change, class_round, next_free}
use Rattle.tt_deluge.specs.StudentRounds.{choice_drawn, choices_in}

-- what an item gives with the words after the one that drew it; without an item nothing, and no word is drawn
abbrev pub by_item : {A B : Type 0} → (A → Stream → Option B × Stream) → Stream → Option A → Option B × Stream
by_item next random item = option_map_or (λ x. next x (next_u32 random).1) item (None, random)

-- a snapshot without the other class, and with the class at a value
abbrev pub half_exchanged : Snapshot → (class : ℕ) → Value → (other : ℕ) → Snapshot
half_exchanged s class v other = with_value (with_value s other None) class (Some v)

-- the snapshot with a class at the next free value, none where it has none
abbrev pub moved_to_next : Parts → Snapshot → (class place : ℕ) → Option Snapshot
moved_to_next p s class place = option_map (λ v. with_value s class (Some v)) (next_free p s class place)

-- the change of a class, with a place in its domain by the next word, and the words after it
abbrev pub class_drawn : Parts → Snapshot → (kind class : ℕ) → Stream → Option Snapshot × Stream
class_drawn p s kind class random =
    let place = draw_next (length (domain_of p class)) random in (class_change p s kind class place.0, place.1)

-- a student has a choice of classes of a course
abbrev pub has_choice : Parts → (course : ℕ) → Bool
has_choice p course = nat_lt 1 (length (choices_at p course))

-- a class fits beside others: it has no parent, or its parent is one of them
abbrev pub fits_beside : Parts → (others : List ℕ) → (class : ℕ) → Bool
fits_beside p others class = has_parent p others class

-- the classes of a subpart that fit beside others
abbrev pub fitting : Parts → (others : List ℕ) → Span → List ℕ
fitting p others subpart = filter (fits_beside p others) (span_places subpart)

-- what rounds are made over: classes, and courses of students
pub record Targets : Type 0 where
  pub classes : List ℕ
  pub choices : List Target

-- the placed classes that aren't locked, and the courses with a choice of each student who has classes
abbrev pub targets_at : Parts → Snapshot → Targets
targets_at p s = record { classes = movable_classes p s; choices = choices_in p s }

-- the list is empty
abbrev pub has_no_item : {A : Type 0} → List A → Bool
has_no_item xs = length xs == 0

-- there is nothing to change
abbrev pub are_none : Targets → Bool
are_none o = has_no_item o.classes && has_no_item o.choices

-- a round of a kind below 32 is one on a class: there is no choice, or there is a class and the kind is odd
abbrev pub is_on_class : Targets → (kind : ℕ) → Bool
is_on_class o kind = has_no_item o.choices || (not (has_no_item o.classes) && (kind % 2 == 1))

-- what a round on a course with a choice of a student finds
unfoldable pub student_round : Parts → Snapshot → Stream → Option Snapshot × Stream
student_round p s random = by_draw (choices_in p s) (choice_drawn p s) random

-- what a round of a kind finds
abbrev pub found_of_kind : Parts → Snapshot → (kind : ℕ) → Stream → Option Snapshot × Stream
found_of_kind p s kind random = if is_on_class (targets_at p s) kind then class_round p s kind random else student_round p s random

-- the level in round i of n, counted from 0: it sinks from the first total to 0, but not below the present total
abbrev pub level_at : (first rounds i present : ℕ) → ℕ
level_at first rounds i present = max present (first - first * i / rounds)

-- a change that is made: one with which the total is at most the level
abbrev pub made_within : Parts → (level : ℕ) → Option Snapshot → Option Snapshot
made_within p level found = option_and_then (λ next. if nat_le (total_of p next) level then Some next else None) found

-- a moment on the way: the rounds so far, and the words to come
abbrev pub DelugeMoment : Type 0
DelugeMoment = Improvement × Stream

-- before the first round
abbrev pub first_moment : (seed : ℕ) → Snapshot → DelugeMoment
first_moment seed s = (record { snapshot = s; rounds = 0; changed = 0 }, random_words seed)

-- The entries of a step at a worked example: two classes with one room, of which the second is forced to the time of the first.
use Rattle.std.proofs.Common.{◌≡◌, ℕ, ◌+◌, ◌<◌, ◌≤◌, ◌^◌, List, [], ◌∷◌, Some, None, map, refl, lit<, lit≤}
use Rattle.std.specs.FinMap.{empty}
use Rattle.tt_base.specs.Sets.{has, share, places}
use Rattle.tt_bits.specs.declared.times.Time.{Time}
use Rattle.tt_bits.specs.declared.times.Value.{Value}
use Rattle.tt_problem.specs.declared.parts.ClassPart.{ClassPart}
use Rattle.tt_problem.specs.declared.parts.TimeChoice.{TimeChoice}
use Rattle.tt_problem.specs.declared.parts.Parts.{Parts}
use Rattle.tt_plan.specs.Domain.{spot_at_value}
use Rattle.tt_occupancy.specs.Clashes.{clash}
use Rattle.tt_journal.specs.declared.Entry.{Entry}
use Rattle.tt_journal.specs.declared.Entry.TheVariants.{Mark, Placed, Bumped, Left, Seated}
use Rattle.tt_state.specs.Snapshots.{Snapshot, opening_snapshot, with_value}
use Rattle.tt_state.specs.Values.{conflict_set_of}
use Rattle.tt_state.specs.Forced.{key_of, forced, forced_by}
use Rattle.tt_state.specs.History.{before_step, come_to, earlier_by, gone_from, left_by, point_count, seated_by}
use Rattle.tt_state.specs.Kept.{counts_of}

-- four slots on the first day of the first week
time : (start penalty : ℕ) → start + 4 ≤ 65535 → TimeChoice
time start penalty ends = record {
  time = record {
    days = record { bits = 1; not_empty = lit< tt; in_range = lit< tt };
    weeks = record { bits = 1; not_empty = lit< tt; in_range = lit< tt };
    start = start;
    length = 4;
    lasts = lit≤ tt;
    ends = ends;
  };
  penalty = penalty;
}

-- a class with these times in the only room
in_the_room : (id : ℕ) → List TimeChoice → ClassPart
in_the_room id times = record { id = id; limit = None; parent = None; times = times; rooms = record { room = 0; penalty = 0 } ∷ [] }

two_classes : Parts
two_classes = record {
  nr_days = 1;
  nr_weeks = 1;
  weights = record { time = 1; room = 1; distribution = 1; student = 1 };
  courses = [];
  configs = [];
  subparts = [];
  classes = in_the_room 1 (time 10 9 (lit≤ tt) ∷ []) ∷ in_the_room 2 (time 10 0 (lit≤ tt) ∷ time 11 3 (lit≤ tt) ∷ []) ∷ [];
  rooms = record { id = 1; closed = [] } ∷ [];
  travel = record { rooms = 1; slots = 0 ∷ [] };
  rules = [];
  students = [];
}

first : Value
first = record { time = 0; room = 0 }

-- the first class is placed
placed : Snapshot
placed = with_value (opening_snapshot two_classes) 0 (Some first)

after_placing : List Entry
after_placing = Placed 0 None ∷ Mark 0 ∷ []

-- the second class is forced there: the first one goes, which is counted
after_forcing : List Entry
after_forcing = Placed 1 None ∷ Bumped (key_of 1 first 0 first) ∷ Placed 0 (Some first) ∷ Mark 0 ∷ after_placing

forced_example : forced_by two_classes placed 1 first (Mark (point_count after_placing) ∷ after_placing) ≡ after_forcing
unfolding time in_the_room two_classes first placed after_placing after_forcing forced_by conflict_set_of spot_at_value clash share has places
forced_example = refl

-- going back by a step leaves the entries of the first
undone_example : before_step after_forcing ≡ after_placing
unfolding after_forcing after_placing
undone_example = refl

-- and leads to the earlier plans
plans_example : map (λ s. s.plan) (earlier_by (forced two_classes placed 1 first) after_forcing) ≡ (Some first ∷ None ∷ []) ∷ (None ∷ None ∷ []) ∷ []
unfolding time in_the_room two_classes first placed after_forcing after_placing forced conflict_set_of spot_at_value clash share has places
plans_example = refl

-- where nothing is counted
counts_example : counts_of after_placing ≡ empty
unfolding after_placing
counts_example = refl

-- a student with two classes gets one other in place of the second: the first is not noted
exchange_example : seated_by 7 (come_to (0 ∷ 1 ∷ []) (2 ∷ 0 ∷ [])) (left_by 7 (gone_from (0 ∷ 1 ∷ []) (2 ∷ 0 ∷ [])) (Mark 0 ∷ [])) ≡ Seated 7 2 ∷ Left 7 1 ∷ Mark 0 ∷ []
exchange_example = refl

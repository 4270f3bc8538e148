-- Theorem. What each command does on a plain desk, which keeps whole snapshots.
use Rattle.std.specs.Prelude.{ℕ, Bool, true, false, not, ◌==◌, nat_le, List, [], ◌∷◌, ◌++◌, length, Option, Some, Result, Ok, Err, codes, decimal, ok_or, option_and_then, option_map, if◌then◌else◌}
use Rattle.std.specs.List.{flat_map, list_any}
use Rattle.std.specs.Option.{option_map_or}
use Rattle.std.specs.Result.{result_map_both}
use Rattle.tt_base.specs.Limits.{most_closures}
use Rattle.tt_bits.specs.declared.times.Value.{Value}
use Rattle.tt_bits.specs.declared.words.BitWord.{BitWord}
use Rattle.tt_bits.specs.declared.times.Time.{Time}
use Rattle.tt_bits.specs.Sets.{days_word, weeks_word}
use Rattle.tt_bits.specs.Times.{time_of}
use Rattle.tt_problem.specs.declared.parts.Parts.{Parts}
use Rattle.tt_problem.specs.Places.{class_of, room_of, student_of, class_id}
use Rattle.tt_plan.specs.declared.named.NoValue.{NoValue}
use Rattle.tt_plan.specs.declared.named.NoValue.TheVariants as no_value
use Rattle.tt_plan.specs.Named.{find_value}
use Rattle.tt_struct.specs.Enrolments.{is_enrolment}
use Rattle.tt_score.specs.declared.totals.Totals as totals
use Rattle.tt_state.specs.Snapshots.{Snapshot, opening_snapshot, value_in, with_value, list_in, with_list, classes_in_order, is_open_in, with_closed, with_reopened, is_locked_in, with_lock, with_unplaced, lockable, all_locked, locked_classes, none_locked, totals_in}
use Rattle.tt_state.specs.Seats.{first_without_seat}
use Rattle.tt_state.specs.Values.{conflict_set_of, obstacle_of}
use Rattle.tt_state.specs.Faults.{lock_fault_of}
use Rattle.tt_state.specs.declared.obstacle.Obstacle.{Obstacle}
use Rattle.tt_state.specs.declared.obstacle.Obstacle.TheVariants as obstacle
use Rattle.tt_state.specs.declared.locks.LockFault.{LockFault}
use Rattle.tt_state.specs.declared.locks.LockFault.TheVariants as lock_fault
use Rattle.tt_state.specs.Forced.{forced}
use Rattle.tt_state.specs.Sound.{is_ready}
use Rattle.tt_state.specs.Desk.{Desk, stepped}
use Rattle.tt_published.specs.Timetable.{Timetable}
use Rattle.tt_published.specs.Published.{timetable_of}
use Rattle.tt_solution.specs.Text.{published_text}
use Rattle.tt_enrol.specs.Enrolled.{AllEnrolled, enrolled, all_enrolled}
use Rattle.tt_improve.specs.Rounds.{Improvement, improved}
use Rattle.tt_deluge.specs.Deluged.{deluged}
use Rattle.tt_search.specs.PlaceTurns.{all_placed}
use Rattle.tt_search.specs.Recalled.{recalled}
use Rattle.tt_search.specs.Searched.{searched, repaired}
use Rattle.tt_suggest.specs.declared.suggestion.Move.{Move}
use Rattle.tt_suggest.specs.declared.suggestion.Suggestion.{Suggestion}
use Rattle.tt_suggest.specs.declared.suggestion.Suggested.{Suggested}
use Rattle.tt_suggest.specs.Suggestions.{suggested}
use Rattle.tt_suggest.specs.Tree.{most_tries, root_of, tries_of}
use Rattle.tt_explain.specs.Ids.{value_text}
use Rattle.tt_explain.specs.Explain.{explain_lines}
use Rattle.tt_explain.specs.Why.{why_lines}
use Rattle.tt_explain.specs.Stats.{stats_lines}
use Rattle.tt_explain.specs.Values.{values_lines}
use Rattle.tt_explain.specs.Student.{student_lines}
use Rattle.tt_explain.specs.Meets.{meets_lines}
use Rattle.tt_explain.specs.Costs.{costs_lines}
use Rattle.tt_explain.specs.Violations.{violations_lines}
use Rattle.tt_script.specs.declared.command.Command.{Command}
use Rattle.tt_script.specs.declared.command.Command.TheVariants.{Assign, Unassign, Force, Section, Drop, Enrol, EnrolAll, Search, Repair, Place, Improve, Deluge, Recall, Close, Reopen, Lock, LockAll, Unlock, UnlockAll, Undo, Publish, Draft, Totals, Violations, Costs, Explain, Why, Values, Meets, Student, Stats, Suggest, Quit}
use Rattle.tt_text.specs.Fields.{field}
use Rattle.tt_desk.specs.declared.refusal.Refusal.{Refusal}
use Rattle.tt_desk.specs.declared.refusal.Refusal.TheVariants.{BadLine, NoSuchClass, NoSuchStudent, NoSuchTime, RoomNotListed, NoSuchRoom, NotPlaced, Blocked, Held, NoEnrolment, NoSeat, NotSectioned, NothingToUndo, NotReady, NothingPublished, BadTime, NothingClosed, TooManyTries, TooManyClosures, Locked, NotLocked}
use Rattle.tt_desk.specs.declared.refusal.Outcome.{Outcome}
use Rattle.tt_desk.specs.declared.refusal.Outcome.TheVariants.{Skipped, Accepted, Refused, Ended}
use Rattle.tt_script.specs.declared.script.Line.{Line}
use Rattle.tt_script.specs.declared.script.Line.TheVariants.{Empty, Bad, Good}
use Rattle.tt_base.specs.Chain.{◌>>=◌, none_or}
use Rattle.tt_script.specs.Script.{line_of}

-- a desk, and the published timetable if there is one
pub record Session : Type 0 where
  pub desk : Desk
  pub published : Option Timetable

-- nothing is placed, no student has a class, there is no earlier snapshot, and this is published
abbrev pub opening_session : Parts → Option Timetable → Session
opening_session p published = record { desk = record { problem = p; present = opening_snapshot p; earlier = [] }; published = published }

-- ---- the checks of a command, each of which gives what the next ones need, or its refusal

-- the place of the class with this id
abbrev pub known_class : Parts → ℕ → Result ℕ Refusal
known_class p id = ok_or (class_of p id) NoSuchClass

-- the place of the student with this id
abbrev pub known_student : Parts → ℕ → Result ℕ Refusal
known_student p id = ok_or (student_of p id) NoSuchStudent

-- the places of the classes with these ids
abbrev pub known_classes : Parts → List ℕ → Result (List ℕ) Refusal
known_classes p [] = Ok []
known_classes p (id ∷ ids) = do
  place ← known_class p id
  places ← known_classes p ids
  Ok (place ∷ places)

-- the time that two words and two numbers of slots write, within the days and weeks of the problem
abbrev pub written_time : Parts → BitWord → (start length : ℕ) → BitWord → Option Time
written_time p days start length weeks =
    option_and_then (λ d. option_and_then (λ w. time_of d w start length) (weeks_word weeks p.nr_weeks)) (days_word days p.nr_days)

-- it is so, or this is the refusal
abbrev pub true_or : Refusal → Bool → Result (Unit {0}) Refusal
true_or refusal is_so = if is_so then Ok tt else Err refusal

-- why there is no such value
abbrev pub value_refusal : NoValue → Refusal
value_refusal no_value.Time = NoSuchTime
value_refusal no_value.Room = RoomNotListed

-- the value of a class that the number of a time and the id of a room name
abbrev pub known_value : Parts → ℕ → ℕ → Option ℕ → Result Value Refusal
known_value p class time room = result_map_both (λ v. v) value_refusal (find_value p class time room)

-- why a class isn't forced to a value
abbrev pub obstacle_refusal : Parts → Obstacle → Refusal
obstacle_refusal p (obstacle.Blocked block) = Blocked block
obstacle_refusal p (obstacle.Held class) = Held (class_id p class)

-- why a class isn't locked
abbrev pub lock_refusal : LockFault → Refusal
lock_refusal lock_fault.NotPlaced = NotPlaced
lock_refusal lock_fault.Locked = Locked

-- the desk with the newest of these earlier snapshots as its present one
abbrev pub stepped_back : Parts → List Snapshot → Result Desk Refusal
stepped_back p [] = Err NothingToUndo
stepped_back p (s ∷ ss) = Ok (record { problem = p; present = s; earlier = ss })

-- how far a snapshot with these totals is from being ready
abbrev pub not_ready : totals.Totals → Refusal
not_ready t = NotReady t.unplaced t.unsectioned t.hard

-- ---- what accepted commands leave

-- a session, and the command's own lines
pub record Answer : Type 0 where
  pub session : Session
  pub lines : List ℕ

-- nothing is changed
abbrev pub same : Session → List ℕ → Answer
same s lines = record { session = s; lines = lines }

-- what is asked about a class or a student that is known is told
abbrev pub asked_about : Session → Result ℕ Refusal → (Parts → Snapshot → ℕ → List ℕ) → Result Answer Refusal
asked_about s known lines = known >>= λ place. Ok (same s (lines s.desk.problem s.desk.present place))

-- the session has this desk
abbrev pub with_desk : Session → Desk → List ℕ → Answer
with_desk s d lines = record { session = record { desk = d; published = s.published }; lines = lines }

-- one more step leads to this snapshot
abbrev pub with_step : Session → Snapshot → List ℕ → Answer
with_step s now lines = with_desk s (stepped s.desk now) lines

-- this timetable is published
abbrev pub with_published : Session → Timetable → List ℕ → Answer
with_published s t lines = record { session = record { desk = s.desk; published = Some t }; lines = lines }

-- a line of a word and a number
abbrev pub counted_line : List ℕ → ℕ → List ℕ
counted_line word n = field word n ++ codes "\n"

-- one more step leads to where a search ended, after so many turns
abbrev pub with_search : Session → Snapshot × ℕ → Answer
with_search s (end, turns) = with_step s end (counted_line (codes "turns ") turns)

-- one more step leads to where all students are enrolled that could be
abbrev pub with_all_enrolled : Session → AllEnrolled → Answer
with_all_enrolled s all = with_step s all.snapshot (field (codes "enrolled ") all.enrolled ++ field (codes " left ") all.left ++ codes "\n")

-- one more step leads to where rounds ended, with how many were made and how many changes led there
abbrev pub with_rounds : Session → Improvement → Answer
with_rounds s i = with_step s i.snapshot (field (codes "rounds ") i.rounds ++ field (codes " changed ") i.changed ++ codes "\n")

-- the text that `publish` writes, ready or not, and the end of its line
abbrev pub draft_line : Desk → List ℕ
draft_line d = published_text d.problem d.present.plan d.present.lists ++ codes "\n"

-- `out D`: a line for each class that is taken out
abbrev pub taken_lines : Parts → List ℕ → List ℕ
taken_lines p classes = flat_map (λ class. counted_line (codes "out ") (class_id p class)) classes

-- `set D T R`: a placement
abbrev pub set_line : Parts → Move → List ℕ
set_line p m = field (codes "set ") (class_id p m.class) ++ codes " " ++ value_text p m.class m.value ++ codes "\n"

-- the end of a line: how many published classes moved, or '-' while nothing is published
abbrev pub moved_text : Option ℕ → List ℕ
moved_text moved = codes " moved " ++ option_map_or decimal moved (codes "-") ++ codes "\n"

-- `result total E moved M`: what a suggestion comes to, with how many published classes are then moved while there are any
abbrev pub result_line : Option Timetable → Suggestion → List ℕ
result_line published x = field (codes "result total ") x.total ++ moved_text (option_map (λ t. x.moved) published)

-- a line for each placement of the best suggestion and what it comes to, or `none`
abbrev pub best_lines : Parts → Option Timetable → Option Suggestion → List ℕ
best_lines p published best = option_map_or (λ x. flat_map (set_line p) x.moves ++ result_line published x) best (codes "none\n")

-- `tried K`: how many values were tried, and the best suggestion
unfoldable pub suggested_lines : Parts → Option Timetable → Suggested → List ℕ
suggested_lines p published found = counted_line (codes "tried ") found.tried ++ best_lines p published found.best

-- ---- the commands

-- what a command leaves and its own lines, or the first refusal that applies, one check a line
abbrev pub carried_out : Session → Command → Result Answer Refusal
carried_out s (Assign class time room) = do
  c ← known_class s.desk.problem class
  v ← known_value s.desk.problem c time room
  Ok (with_step s (with_value s.desk.present c (Some v)) [])
carried_out s (Unassign class) = do
  c ← known_class s.desk.problem class
  v ← ok_or (value_in s.desk.present c) NotPlaced
  Ok (with_step s (with_unplaced s.desk.present c) [])
carried_out s (Force class time room) = do
  c ← known_class s.desk.problem class
  v ← known_value s.desk.problem c time room
  free ← none_or (obstacle_refusal s.desk.problem) (obstacle_of s.desk.problem s.desk.present c v)
  Ok (with_step s (forced s.desk.problem s.desk.present c v) (taken_lines s.desk.problem (conflict_set_of s.desk.problem s.desk.present c v)))
carried_out s (Section student classes) = do
  list ← known_classes s.desk.problem classes
  i ← known_student s.desk.problem student
  valid ← true_or NoEnrolment (is_enrolment s.desk.problem i list)
  free ← none_or (λ full. NoSeat (class_id s.desk.problem full)) (first_without_seat s.desk.problem s.desk.present.lists i list)
  Ok (with_step s (with_list s.desk.present i (classes_in_order list)) [])
carried_out s (Drop student) = do
  i ← known_student s.desk.problem student
  had ← true_or NotSectioned (not (length (list_in s.desk.present i) == 0))
  Ok (with_step s (with_list s.desk.present i []) [])
carried_out s (Enrol student) = do
  i ← known_student s.desk.problem student
  now ← ok_or (enrolled s.desk.problem s.desk.present i) NoEnrolment
  Ok (with_step s now [])
carried_out s EnrolAll = Ok (with_all_enrolled s (all_enrolled s.desk.problem s.desk.present))
carried_out s (Search turns seed) = Ok (with_search s (searched s.desk.problem turns seed s.desk.present))
carried_out s (Repair turns seed) = do
  t ← ok_or s.published NothingPublished
  Ok (with_search s (repaired s.desk.problem t turns seed s.desk.present))
carried_out s (Place turns seed) = Ok (with_search s (all_placed s.desk.problem turns seed s.desk.present))
carried_out s (Improve rounds seed) = Ok (with_rounds s (improved s.desk.problem rounds seed s.desk.present))
carried_out s (Deluge rounds seed) = Ok (with_rounds s (deluged s.desk.problem rounds seed s.desk.present))
carried_out s Recall = do
  t ← ok_or s.published NothingPublished
  Ok (with_step s (recalled s.desk.problem t s.desk.present) [])
carried_out s (Close room days start slots weeks) = do
  r ← ok_or (room_of s.desk.problem room) NoSuchRoom
  t ← ok_or (written_time s.desk.problem days start slots weeks) BadTime
  few ← true_or TooManyClosures (not (length s.desk.present.closures == most_closures))
  Ok (with_step s (with_closed s.desk.present r t) [])
carried_out s (Reopen room) = do
  r ← ok_or (room_of s.desk.problem room) NoSuchRoom
  some ← true_or NothingClosed (list_any (is_open_in r) s.desk.present.closures)
  Ok (with_step s (with_reopened s.desk.present r) [])
carried_out s (Lock class) = do
  c ← known_class s.desk.problem class
  free ← none_or lock_refusal (lock_fault_of s.desk.present c)
  Ok (with_step s (with_lock s.desk.present c true) [])
carried_out s LockAll = Ok (with_step s (all_locked s.desk.present) (counted_line (codes "locked ") (length (lockable s.desk.present))))
carried_out s (Unlock class) = do
  c ← known_class s.desk.problem class
  was ← true_or NotLocked (is_locked_in s.desk.present c)
  Ok (with_step s (with_lock s.desk.present c false) [])
carried_out s UnlockAll = Ok (with_step s (none_locked s.desk.present) (counted_line (codes "unlocked ") (length (locked_classes s.desk.present))))
carried_out s Undo = do
  d ← stepped_back s.desk.problem s.desk.earlier
  Ok (with_desk s d [])
carried_out s Publish = do
  whole ← true_or (not_ready (totals_in s.desk.problem s.desk.present)) (is_ready s.desk.problem s.desk.present)
  Ok (with_published s (timetable_of s.desk.problem s.desk.present.plan s.desk.present.lists) (draft_line s.desk))
carried_out s Draft = Ok (same s (draft_line s.desk))
carried_out s Totals = Ok (same s [])
carried_out s Violations = Ok (same s (violations_lines s.desk.problem s.desk.present))
carried_out s Costs = Ok (same s (costs_lines s.desk.problem s.desk.present))
carried_out s (Explain class) = asked_about s (known_class s.desk.problem class) explain_lines
carried_out s (Why class time room) = do
  c ← known_class s.desk.problem class
  v ← known_value s.desk.problem c time room
  Ok (same s (why_lines s.desk.problem s.desk.present c v))
carried_out s (Values class) = asked_about s (known_class s.desk.problem class) values_lines
carried_out s (Meets class) = asked_about s (known_class s.desk.problem class) meets_lines
carried_out s (Student student) = asked_about s (known_student s.desk.problem student) student_lines
carried_out s (Stats class) = asked_about s (known_class s.desk.problem class) stats_lines
carried_out s (Suggest class depth) = do
  c ← known_class s.desk.problem class
  few ← true_or TooManyTries (nat_le (tries_of s.desk.problem depth (root_of s.desk.present c)) most_tries)
  Ok (same s (suggested_lines s.desk.problem s.published (suggested s.desk.problem s.published depth s.desk.present c)))
carried_out s Quit = Ok (same s [])

-- what a line leaves, what became of it, and the command's own lines
pub record Step : Type 0 where
  pub session : Session
  pub outcome : Outcome
  pub lines : List ℕ

-- a refused command changes nothing
abbrev pub step_from : Session → Result Answer Refusal → Step
step_from s (Ok a) = record { session = a.session; outcome = Accepted; lines = a.lines }
step_from s (Err r) = record { session = s; outcome = Refused r; lines = [] }

-- what a command does; `quit` ends the script
abbrev pub command_step : Session → Command → Step
command_step s Quit = record { session = s; outcome = Ended; lines = [] }
command_step s command = step_from s (carried_out s command)

-- what a line does
abbrev pub step_of : Session → Line → Step
step_of s Empty = record { session = s; outcome = Skipped; lines = [] }
step_of s Bad = record { session = s; outcome = Refused BadLine; lines = [] }
step_of s (Good command) = command_step s command

-- what the line of these bytes does
unfoldable pub line_step : Session → List ℕ → Step
line_step s line = step_of s (line_of line)

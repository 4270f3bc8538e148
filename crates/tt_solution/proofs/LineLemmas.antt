-- The line of a plan, once its meetings are written.
use Rattle.std.proofs.Common.{◌≡◌, ℕ, List, ◌++◌, Option, Some, None, length, get_or, map, ap, subst}
use Rattle.std.specs.Prelude.{Result, Ok, Err, OnOk}
use Rattle.std.specs.Option.{option_map}
use Rattle.serde_json.specs.Written.{compact_text}
use Rattle.tt_bits.specs.declared.times.Value.{Value}
use Rattle.tt_problem.specs.declared.parts.Parts.{Parts}
use Rattle.tt_problem.specs.Valid.{IsValid}
use Rattle.tt_plan.specs.Domain.{IsOfDomain, spots_of}
use Rattle.tt_roster.specs.Rostered.{Rostered}
use Rattle.tt_roster.specs.Kept.{IsRosterOf}
use Rattle.tt_published.specs.declared.meeting.Meeting.{Meeting}
use Rattle.tt_published.specs.Published.{meeting_of}
use Rattle.tt_published.specs.Timetable.{Timetable}
use Rattle.tt_solution.specs.Drafted.{drafted_of}
use Rattle.tt_solution.specs.Small.{HaveSmall}
use Rattle.tt_solution.specs.Tables.{published_of}
use Rattle.tt_solution.specs.Text.{published_data, published_text}
use Rattle.tt_solution.proofs.BackLemmas.{published_back}
use Rattle.tt_solution.proofs.TextLemmas.{appended}

-- what a plan publishes of each class
abbrev pub meetings_in : Parts → List (Option Value) → List (Option Meeting)
meetings_in p plan = map (option_map (meeting_of p)) (spots_of p plan)

-- these classes and lists
abbrev pub with_lists : List (Option Meeting) → List (List ℕ) → Timetable
with_lists classes lists = record { classes = classes; lists = lists }

-- the text of the meetings of a plan is the plan's
pub line_written : {T E : Type 0} (r : Result T E) (old new : List ℕ) (p : Parts) (plan : List (Option Value)) (lists : List (List ℕ)) (classes : List (Option Meeting)) → classes ≡ meetings_in p plan
    → OnOk r (new ≡ old ++ compact_text (published_data p (with_lists classes lists))) → OnOk r (new ≡ old ++ published_text p plan lists)
unfolding published_text
line_written r old new p plan lists classes is written =
    appended r old new _ _ written (ap (λ (l : List (Option Meeting)). compact_text (published_data p (with_lists l lists))) is)

-- and is read back
pub line_back : {T E : Type 0} (r : Result T E) (p : Parts) (plan : List (Option Value)) (roster : Rostered) (classes : List (Option Meeting)) → IsValid p → length plan ≡ length p.classes
    → ((class : ℕ) (v : Value) → get_or plan class None ≡ Some v → IsOfDomain p class v) → IsRosterOf p roster → classes ≡ meetings_in p plan
    → OnOk r (HaveSmall p roster.seats classes) → OnOk r (published_of p (published_text p plan roster.seats) ≡ Ok (drafted_of p plan roster.seats))
line_back (Ok x) p plan roster classes valid whole domain fits is small = published_back p plan roster valid whole domain fits (subst (HaveSmall p roster.seats) is small)
line_back (Err e) p plan roster classes valid whole domain fits is small = tt

-- Theorem. The replies to the lines of a script.
use Rattle.std.specs.Prelude.{ℕ, Bool, true, false, List, [], ◌∷◌, ◌++◌, if◌then◌else◌, Option, option_map, codes}
use Rattle.std.specs.List.{list_any}
use Rattle.tt_score.specs.declared.totals.Totals.{Totals}
use Rattle.tt_state.specs.Snapshots.{totals_in}
use Rattle.tt_published.specs.Published.{moved_of}
use Rattle.tt_text.specs.Fields.{field}
use Rattle.tt_desk.specs.declared.refusal.Outcome.{Outcome}
use Rattle.tt_desk.specs.declared.refusal.Outcome.TheVariants.{Accepted, Refused, Ended}
use Rattle.tt_desk.specs.Refusals.{refusal_text}
use Rattle.tt_desk.specs.Desk.{Session, Step, line_step, moved_text}

-- the sums and their weighted total
abbrev pub sums_text : Totals → List ℕ
sums_text t =
    field (codes "ok time ") t.time
    ++ field (codes " room ") t.room
    ++ field (codes " distribution ") t.distribution
    ++ field (codes " student ") t.student
    ++ field (codes " total ") t.total

-- the counts of what is amiss
abbrev pub counts_text : Totals → List ℕ
counts_text t =
    field (codes " hard ") t.hard
    ++ field (codes " unplaced ") t.unplaced
    ++ field (codes " unsectioned ") t.unsectioned

-- the line of totals, with how many published classes moved
abbrev pub totals_line : Totals → Option ℕ → List ℕ
totals_line t moved = sums_text t ++ counts_text t ++ moved_text moved

-- how many published classes moved in the present snapshot
unfoldable pub present_moved : Session → Option ℕ
present_moved s = option_map (moved_of s.desk.problem s.desk.present.plan) s.published

-- an accepted command writes its own lines and the line of totals, a refused one why it is refused; a skipped line and `quit`
-- write nothing
abbrev pub reply_to : Session → List ℕ → Outcome → List ℕ
reply_to s lines Accepted = lines ++ totals_line (totals_in s.desk.problem s.desk.present) (present_moved s)
reply_to s lines (Refused r) = codes "refused " ++ refusal_text r ++ codes "\n"
reply_to s lines _ = []

-- the reply to a line
abbrev pub reply_of : Step → List ℕ
reply_of step = reply_to step.session step.lines step.outcome

abbrev pub is_refused : Outcome → Bool
is_refused (Refused r) = true
is_refused _ = false

abbrev pub is_end : Outcome → Bool
is_end Ended = true
is_end _ = false

-- what the lines do, one after another, up to `quit` or the last one
abbrev pub script_steps : Session → List (List ℕ) → List Step
script_steps s [] = []
script_steps s (line ∷ lines) =
    let step = line_step s line in step ∷ (if is_end step.outcome then [] else script_steps step.session lines)

-- whether one of these lines is refused
abbrev pub refuses : Session → List (List ℕ) → Bool
refuses s lines = list_any (λ step. is_refused step.outcome) (script_steps s lines)

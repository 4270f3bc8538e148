-- Lines of a script that were answered, and those that are left.
use Rattle.std.proofs.Common.{◌≡◌, ℕ, Bool, true, false, List, [], ◌∷◌, ◌++◌, Option, None, Some, refl, sym, ap, ◌∙◌, subst, append_assoc, arith, inl, inr, take, length, length-append}
use Rattle.std.specs.Prelude.{Result, Ok, Err, ◌||◌}
use Rattle.std.specs.List.{concat}
use Rattle.std.proofs.lemmas.List.{append-nil}
use Rattle.std.proofs.lemmas.List.Folds.{concat-append, list_any-append}
use Rattle.std.proofs.Math.Seq.{take-append_seam}
use Rattle.tt_io.specs.Causes.{Writes}
use Rattle.tt_io.proofs.WrittenLemmas.{Writes-append, nothing_written}
use Rattle.tt_script.specs.declared.command.Command.TheVariants.{Assign, Unassign, Force, Section, Drop, Enrol, EnrolAll, Search, Repair, Place, Improve, Deluge, Recall, Close, Reopen, Lock, LockAll, Unlock, UnlockAll, Undo, Publish, Draft, Totals, Violations, Costs, Explain, Why, Values, Meets, Student, Stats, Suggest, Quit}
use Rattle.tt_script.specs.declared.script.Line.{Line}
use Rattle.tt_script.specs.declared.script.Line.TheVariants.{Empty, Bad, Good}
use Rattle.tt_script.specs.Script.{line_of}
use Rattle.tt_desk.specs.declared.refusal.Refusal.{Refusal}
use Rattle.tt_desk.specs.declared.refusal.Outcome.{Outcome}
use Rattle.tt_desk.specs.Causes.{IsMemoryCause}
use Rattle.tt_desk.specs.Desk.{Session, Answer, carried_out, step_from, step_of, line_step}
use Rattle.tt_desk.specs.Replies.{is_end, reply_of}
use Rattle.tt_desk.proofs.ReplyLemmas.{cause_replies}
use Rattle.tt_top.specs.Pieces.{ends_script, has_quit_line}
use Rattle.tt_top.specs.Opening.{opening_line}
use Rattle.tt_top.specs.PlainRun.{Phase}
use Rattle.tt_top.specs.Wanting.{session_after, WantsAfter, IsWanting}
use Rattle.tt_top.specs.Ends.{Answers, WritesBefore, WritesFirst, WritesLess, replies_to}
use Rattle.tt_top.proofs.ServeLemmas.{HasSent, replies-next, replies-last, reply_is_next}

-- ---- the line that ends a script

answered_on : (s : Session) (r : Result Answer Refusal) → is_end (step_from s r).outcome ≡ false
answered_on s (Ok a) = refl
answered_on s (Err e) = refl

quit_step : (d : Session) (l : Line) → is_end (step_of d l).outcome ≡ ends_script l
quit_step d Empty = refl
quit_step d Bad = refl
quit_step d (Good (Assign class time room)) = answered_on d (carried_out d (Assign class time room))
quit_step d (Good (Unassign class)) = answered_on d (carried_out d (Unassign class))
quit_step d (Good (Force class time room)) = answered_on d (carried_out d (Force class time room))
quit_step d (Good (Section student classes)) = answered_on d (carried_out d (Section student classes))
quit_step d (Good (Drop student)) = answered_on d (carried_out d (Drop student))
quit_step d (Good (Enrol student)) = answered_on d (carried_out d (Enrol student))
quit_step d (Good EnrolAll) = answered_on d (carried_out d EnrolAll)
quit_step d (Good (Search turns seed)) = answered_on d (carried_out d (Search turns seed))
quit_step d (Good (Repair turns seed)) = answered_on d (carried_out d (Repair turns seed))
quit_step d (Good (Place turns seed)) = answered_on d (carried_out d (Place turns seed))
quit_step d (Good (Improve rounds seed)) = answered_on d (carried_out d (Improve rounds seed))
quit_step d (Good (Deluge rounds seed)) = answered_on d (carried_out d (Deluge rounds seed))
quit_step d (Good Recall) = answered_on d (carried_out d Recall)
quit_step d (Good (Close room days start slots weeks)) = answered_on d (carried_out d (Close room days start slots weeks))
quit_step d (Good (Reopen room)) = answered_on d (carried_out d (Reopen room))
quit_step d (Good (Lock class)) = answered_on d (carried_out d (Lock class))
quit_step d (Good LockAll) = answered_on d (carried_out d LockAll)
quit_step d (Good (Unlock class)) = answered_on d (carried_out d (Unlock class))
quit_step d (Good UnlockAll) = answered_on d (carried_out d UnlockAll)
quit_step d (Good Undo) = answered_on d (carried_out d Undo)
quit_step d (Good Publish) = answered_on d (carried_out d Publish)
quit_step d (Good Draft) = answered_on d (carried_out d Draft)
quit_step d (Good Totals) = answered_on d (carried_out d Totals)
quit_step d (Good Violations) = answered_on d (carried_out d Violations)
quit_step d (Good Costs) = answered_on d (carried_out d Costs)
quit_step d (Good (Explain class)) = answered_on d (carried_out d (Explain class))
quit_step d (Good (Why class time room)) = answered_on d (carried_out d (Why class time room))
quit_step d (Good (Values class)) = answered_on d (carried_out d (Values class))
quit_step d (Good (Meets class)) = answered_on d (carried_out d (Meets class))
quit_step d (Good (Student student)) = answered_on d (carried_out d (Student student))
quit_step d (Good (Stats class)) = answered_on d (carried_out d (Stats class))
quit_step d (Good (Suggest class depth)) = answered_on d (carried_out d (Suggest class depth))
quit_step d (Good Quit) = refl

-- a line ends a script exactly where it is `quit`
pub quit_ends : (d : Session) (line : List ℕ) → is_end (line_step d line).outcome ≡ ends_script (line_of line)
unfolding line_step
quit_ends d line = quit_step d (line_of line)

-- ---- lines after others

both_false : (a b : Bool) → (a || b) ≡ false → (a ≡ false) × (b ≡ false)
both_false true b none = absurd (cc none)
both_false false b none = (refl, none)

-- the replies to lines after these, none of which is `quit`
replies_after : (d : Session) (lines more : List (List ℕ)) → has_quit_line lines ≡ false → replies_to d (lines ++ more) ≡ replies_to d lines ++ replies_to (session_after d lines) more
replies_after d [] more none = refl
replies_after d (line ∷ lines) more none =
    let step = line_step d line in
    let each = both_false (ends_script (line_of line)) (has_quit_line lines) none in
    let goes : is_end step.outcome ≡ false = quit_ends d line ∙ each.0 in
    replies-next d step.session (line ∷ (lines ++ more)) line (lines ++ more) step.outcome refl refl refl goes
    ∙ ap (λ t. reply_of step ∷ t) (replies_after step.session lines more each.1)
    ∙ ap (λ t. t ++ replies_to (session_after step.session lines) more) (sym (replies-next d step.session (line ∷ lines) line lines step.outcome refl refl refl goes))

after_more : (d : Session) (lines : List (List ℕ)) (line : List ℕ) → session_after d (lines ++ line ∷ []) ≡ (line_step (session_after d lines) line).session
after_more d [] line = refl
after_more d (first ∷ lines) line = after_more (line_step d first).session lines line

-- ---- lines that were answered

-- These lines were answered, none of which is `quit`.
pub record HasAnswered (d : Session) (lines : List (List ℕ)) (before : Option (List ℕ)) (d' : Session) (now : Option (List ℕ)) : Type 0 where
  pub after : session_after d lines ≡ d'
  pub no_quit : has_quit_line lines ≡ false
  pub written : Writes before now (concat (replies_to d lines))

pub answered_none : (d : Session) (before : Option (List ℕ)) → HasAnswered d [] before d before
answered_none d before = record { after = refl; no_quit = refl; written = nothing_written before before refl }

-- lines after them are answered by the session that is left
pub follows : (d : Session) (lines : List (List ℕ)) (before : Option (List ℕ)) (d' : Session) (now : Option (List ℕ)) → HasAnswered d lines before d' now → (more : List (List ℕ)) → replies_to d (lines ++ more) ≡ replies_to d lines ++ replies_to d' more
follows d lines before d' now had more = replies_after d lines more had.no_quit ∙ ap (λ s. replies_to d lines ++ replies_to s more) had.after

-- the reply after those to the lines
one_reply : (before mid now : Option (List ℕ)) (replies : List (List ℕ)) (reply : List ℕ) → Writes before mid (concat replies) → Writes mid now reply → Writes before now (concat (replies ++ reply ∷ []))
one_reply before mid now replies reply first second =
    subst (λ (t : List ℕ). Writes before now t) (sym (concat-append replies (reply ∷ []) ∙ ap (λ t. concat replies ++ t) (append-nil reply))) (Writes-append before mid now _ reply first second)

module _ (d : Session) (lines : List (List ℕ)) (before : Option (List ℕ)) (mid_d : Session) (mid : Option (List ℕ)) (had : HasAnswered d lines before mid_d mid) (line : List ℕ) (now : Option (List ℕ)) (d' : Session) (outcome : Outcome) (answers : Answers line mid now mid_d d' outcome) where
  -- one more line
  pub answered_more : is_end outcome ≡ false → HasAnswered d (lines ++ line ∷ []) before d' now
  answered_more goes =
      let reply = reply_of (line_step mid_d line) in
      let one : replies_to mid_d (line ∷ []) ≡ reply ∷ [] = replies-next mid_d d' (line ∷ []) line [] outcome refl answers.session answers.outcome_is goes in
      let replies_are : replies_to d (lines ++ line ∷ []) ≡ replies_to d lines ++ reply ∷ [] = follows d lines before mid_d mid had (line ∷ []) ∙ ap (λ t. replies_to d lines ++ t) one in
      record {
        after = after_more d lines line ∙ ap (λ s. (line_step s line).session) had.after ∙ answers.session;
        no_quit = list_any-append (λ l. ends_script (line_of l)) lines (line ∷ []) ∙ rw (had.no_quit, ← quit_ends mid_d line, answers.outcome_is, goes) refl;
        written = subst (λ (t : List (List ℕ)). Writes before now (concat t)) (sym replies_are) (one_reply before mid now (replies_to d lines) reply had.written answers.written);
      }

  -- the line that ends the script
  pub answered_last : is_end outcome ≡ true → Writes before now (concat (replies_to d (lines ++ line ∷ [])))
  answered_last ends =
      let reply = reply_of (line_step mid_d line) in
      let one : replies_to mid_d (line ∷ []) ≡ reply ∷ [] = replies-last mid_d d' (line ∷ []) line [] outcome refl answers.session answers.outcome_is ends in
      subst (λ (t : List (List ℕ)). Writes before now (concat t)) (sym (follows d lines before mid_d mid had (line ∷ []) ∙ ap (λ t. replies_to d lines ++ t) one)) (one_reply before mid now (replies_to d lines) reply had.written answers.written)

-- ---- lines that are left

-- All but these last lines were answered, and none of those is `quit`.
pub record HasLeft (d : Session) (lines : List (List ℕ)) (before : Option (List ℕ)) (d' : Session) (now : Option (List ℕ)) (left : List (List ℕ)) : Type 0 where
  pub done : List (List ℕ)
  pub parts : lines ≡ done ++ left
  pub answered : HasAnswered d done before d' now

pub left_all : (d : Session) (lines : List (List ℕ)) (before : Option (List ℕ)) → HasLeft d lines before d before lines
left_all d lines before = record { done = []; parts = refl; answered = answered_none d before }

-- the replies to them are left
pub left_sent : (d : Session) (lines : List (List ℕ)) (before : Option (List ℕ)) (d' : Session) (now : Option (List ℕ)) (left : List (List ℕ)) → HasLeft d lines before d' now left → HasSent before now (replies_to d lines) (replies_to d' left)
left_sent d lines before d' now left had = record {
  sent = replies_to d had.done;
  parts = ap (replies_to d) had.parts ∙ follows d had.done before d' now had.answered left;
  written = had.answered.written;
}

-- one less
pub left_next : (d : Session) (lines : List (List ℕ)) (before : Option (List ℕ)) (mid_d : Session) (mid : Option (List ℕ)) (left : List (List ℕ)) (d' : Session) (now : Option (List ℕ)) (line : List ℕ) (rest : List (List ℕ)) (outcome : Outcome)
    → HasLeft d lines before mid_d mid left → left ≡ line ∷ rest → Answers line mid now mid_d d' outcome → is_end outcome ≡ false → HasLeft d lines before d' now rest
left_next d lines before mid_d mid left d' now line rest outcome had is answers goes = record {
  done = had.done ++ line ∷ [];
  parts = had.parts ∙ ap (λ t. had.done ++ t) is ∙ sym (append_assoc had.done (line ∷ []) rest);
  answered = answered_more d had.done before mid_d mid had.answered line now d' outcome answers goes;
}

-- the command of the next one wants memory
pub left_wants : (d : Session) (lines : List (List ℕ)) (before : Option (List ℕ)) (mid_d : Session) (mid now : Option (List ℕ)) (left : List (List ℕ)) (line : List ℕ) (rest : List (List ℕ))
    → HasLeft d lines before mid_d mid left → left ≡ line ∷ rest → now ≡ mid → IsMemoryCause mid_d line → WritesBefore before now d lines
left_wants d lines before mid_d mid now left line rest had is same cause = (
  had.done,
  record {
    next = line;
    later = rest;
    parts = had.parts ∙ ap (λ t. had.done ++ t) is;
    goes_on = had.answered.no_quit;
    cause = subst (λ (s : Session). IsMemoryCause s line) (sym had.answered.after) cause;
  },
  rw same had.answered.written,
)

-- ---- a command that wants memory

module _ (d : Session) (lines answered : List (List ℕ)) (wants : WantsAfter d lines answered) where
  wanting_parts : replies_to d lines ≡ replies_to d answered ++ replies_to (session_after d answered) (wants.next ∷ wants.later)
  wanting_parts = ap (replies_to d) wants.parts ∙ replies_after d answered (wants.next ∷ wants.later) wants.goes_on

-- whole replies were written
pub before_first : (before now : Option (List ℕ)) (d : Session) (lines : List (List ℕ)) → WritesBefore before now d lines → WritesFirst before now (replies_to d lines)
before_first before now d lines wrote =
    let sent = replies_to d wrote.0 in
    (length sent, subst (λ (t : List (List ℕ)). Writes before now (concat t)) (sym (ap (take (length sent)) (wanting_parts d lines wrote.0 wrote.1) ∙ take-append_seam sent _)) wrote.2)

-- and not all, since the next line has a reply
pub before_less : (before now : Option (List ℕ)) (d : Session) (lines : List (List ℕ)) → WritesBefore before now d lines → WritesLess before now (concat (replies_to d lines))
before_less before now d lines wrote =
    let sent = replies_to d wrote.0 in
    let s = session_after d wrote.0 in
    let w = wrote.1 in
    let reply = reply_of (line_step s w.next) in
    let next = reply_is_next s (w.next ∷ w.later) w.next w.later refl in (
      concat sent,
      reply ++ concat next.0,
      ap concat (wanting_parts d lines wrote.0 w) ∙ concat-append sent (replies_to s (w.next ∷ w.later)) ∙ ap (λ t. concat sent ++ concat t) next.1,
      omega (arith, length-append reply (concat next.0), cause_replies s w.next w.cause),
      wrote.2,
    )

-- nothing was written
pub wanting_none : (before now : Option (List ℕ)) (q : Phase (Session × List (List ℕ))) → now ≡ before → IsWanting q before now
wanting_none before now (Ok (s, lines)) same = inl (nothing_written before now same)
wanting_none before now (Err None) same = tt
wanting_none before now (Err (Some r)) same = nothing_written before now same

-- the replies after the first line
pub wanting_after : (before mid now : Option (List ℕ)) (d : Session) (lines : List (List ℕ)) → Writes before mid (opening_line d.desk.problem) → WritesBefore mid now d lines → IsWanting (Ok (d, lines)) before now
wanting_after before mid now d lines first wrote = inr (wrote.0, wrote.1, Writes-append before mid now _ _ first wrote.2)

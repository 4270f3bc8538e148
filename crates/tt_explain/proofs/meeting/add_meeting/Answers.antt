use Rattle.std.proofs.Common.{◌≡◌, ◌∙◌, ◌++◌, ℕ, true, false, ap, sym}
use Rattle.std.specs.Prelude.{nat_lt}
use Rattle.std.proofs.lemmas.Bool.{lt-ltb, le-ltb}
use Rattle.std.proofs.lemmas.Result.{on_ok_weaker}
use Rattle.tt_problem.specs.declared.parts.Parts.{Parts}
use Rattle.tt_explain.specs.Meets.{meeting_line, met_students}
use Rattle.tt_explain.proofs.LineLemmas.{not_written, written_if}
use Rattle.tt_explain.proofs.meeting.add_meeting.Goals as goal

pub returns-then-students-gt0 : goal.returns-then-students-gt0
returns-then-students-gt0 c =
    let s = c.args.state.now in
    let count : c.met_students-students.result ≡ met_students s.problem s.present c.args.class c.args.other = c.met_students-students.ensures in
    let some : nat_lt 0 (met_students s.problem s.present c.args.class c.args.other) ≡ true = sym (ap (nat_lt 0) count) ∙ lt-ltb 0 c.met_students-students.result c.if-students-gt0.true in
    on_ok_weaker c.add_meeting_line.result
    (λ written. written_if (nat_lt 0 (met_students s.problem s.present c.args.class c.args.other)) (meeting_line s.problem c.args.other (met_students s.problem s.present c.args.class c.args.other)) c.args.out.now c.add_meeting_line.new.out some
    (written
    ∙ ap (λ (q : Parts). c.args.out.now ++ meeting_line q c.args.other c.met_students-students.result) c.problem.ensures
    ∙ ap (λ (n : ℕ). c.args.out.now ++ meeting_line s.problem c.args.other n) count))
    c.add_meeting_line.ensures

pub returns-else-students-gt0 : goal.returns-else-students-gt0
returns-else-students-gt0 c =
    let s = c.args.state.now in
    let count : c.met_students-students.result ≡ met_students s.problem s.present c.args.class c.args.other = c.met_students-students.ensures in
    let none : nat_lt 0 (met_students s.problem s.present c.args.class c.args.other) ≡ false = sym (ap (nat_lt 0) count) ∙ le-ltb 0 c.met_students-students.result c.if-students-gt0.false in
    not_written (nat_lt 0 (met_students s.problem s.present c.args.class c.args.other)) (meeting_line s.problem c.args.other (met_students s.problem s.present c.args.class c.args.other)) c.args.out.now none

use Rattle.std.proofs.Common.{◌≡◌, true, ◌∙◌, length, drop, ap, sym, arith}
use Rattle.std.specs.Prelude.{[], slice_set}
use Rattle.std.proofs.lemmas.List.{set-set}
use Rattle.tt_base.specs.Lists.{is_listed}
use Rattle.tt_roster.specs.Lists.{Ascends, list_of, without_class}
use Rattle.tt_roster.proofs.KeptLemmas.{list_is}
use Rattle.tt_roster.proofs.StudentLemmas.{has-without_other}
use Rattle.tt_score.specs.Fits.{student_lists}
use Rattle.tt_state.specs.History.{gone_from, left_by}
use Rattle.tt_state.specs.Past.{kept_of}
use Rattle.tt_state.proofs.GoneLemmas.{IsFirstGone, first_gone, kept_all, listed_below, passed_first}
use Rattle.tt_state.proofs.ListsLemmas.{list_now, lists_from}
use Rattle.tt_state.proofs.lists.leave_gone.Goals.{After-leave}
use Rattle.tt_state.proofs.lists.leave_gone.Goals as goal

-- the class that goes
first : (c : After-leave)
    → IsFirstGone (list_of (student_lists c.loop-class.score) c.args.student) c.args.classes.now c.in-Some.class (drop 1 (gone_from (list_of (student_lists c.loop-class.score) c.args.student) c.args.classes.now))
first c =
    let list = list_of (student_lists c.loop-class.score) c.args.student in
    first_gone list c.args.classes.now c.in-Some.class (drop 1 (gone_from list c.args.classes.now)) c.in-Some.ensures

-- the list without it
now : (c : After-leave) → list_of (student_lists c.leave.new.self) c.args.student ≡ without_class c.in-Some.class (list_of (student_lists c.loop-class.score) c.args.student)
now c =
    let lists = student_lists c.loop-class.score in
    list_now (student_lists c.leave.new.self) lists c.args.student (without_class c.in-Some.class (list_of lists c.args.student)) (omega (arith, c.requires.student, c.loop-class.invariant.fits.roster.students)) c.leave.ensures.lists

-- the classes that go then
gone : (c : After-leave) → gone_from (list_of (student_lists c.leave.new.self) c.args.student) c.args.classes.now ≡ drop 1 (gone_from (list_of (student_lists c.loop-class.score) c.args.student) c.args.classes.now)
gone c = ap (λ l. gone_from l c.args.classes.now) (now c) ∙ (first c).gone

pub leave-requires-clause-class : goal.leave-requires-clause-class
leave-requires-clause-class c =
    let p = c.args.problem.now in
    let score = c.loop-class.score in
    let list = list_of (student_lists score) c.args.student in
    let first = first_gone list c.args.classes.now c.in-Some.class (drop 1 (gone_from list c.args.classes.now)) c.in-Some.ensures in
    listed_below c.in-Some.class 0 (length p.classes) list (list_is p score.roster c.args.student c.loop-class.invariant.fits.roster c.requires.student) first.seated

pub leave-requires-clause-seated : goal.leave-requires-clause-seated
leave-requires-clause-seated c =
    let list = list_of (student_lists c.loop-class.score) c.args.student in
    let first = first_gone list c.args.classes.now c.in-Some.class (drop 1 (gone_from list c.args.classes.now)) c.in-Some.ensures in
    first.seated

pub loop-class-smaller : goal.loop-class-smaller
loop-class-smaller c = omega (arith, ap length (gone c), ap length c.in-Some.ensures)

pub loop-class-preserved : goal.loop-class-preserved
loop-class-preserved c =
    let inv = c.loop-class.invariant in
    let student = c.args.student in
    let classes = c.args.classes.now in
    let lists = student_lists c.loop-class.score in
    let list = list_of lists student in
    let class = c.in-Some.class in
    let behind = drop 1 (gone_from list classes) in
    let n = length c.args.problem.now.classes in
    let up : Ascends 0 n list = list_is c.args.problem.now c.loop-class.score.roster student inv.fits.roster c.requires.student in
    record {
      fits = c.leave.ensures.fits;
      planned = c.leave.ensures.plan ∙ inv.planned;
      closed = c.leave.ensures.closures ∙ inv.closed;
      lists = ap (λ l. slice_set l student []) c.leave.ensures.lists ∙ set-set lists student (without_class class list) [] ∙ inv.lists;
      passed = λ d lt has.
          let there : is_listed d (without_class class list) ≡ true = sym (ap (is_listed d) (now c)) ∙ has in
          let before : is_listed d list ≡ true = sym (has-without_other d class 0 n list up (first c).seated (λ same. absurd (omega arith))) ∙ there in
          passed_first 0 n list classes class behind up c.in-Some.ensures d lt before;
      kept = ap (λ l. kept_of l classes) (now c) ∙ (first c).kept ∙ inv.kept;
      entries = ap (λ l. left_by student l c.note.new.self.list) (gone c) ∙ ap (left_by student behind) c.note.ensures.list ∙ sym (ap (λ l. left_by student l c.loop-class.past.list) c.in-Some.ensures) ∙ inv.entries;
      spare = omega (arith, ap length (gone c), ap length c.in-Some.ensures, inv.spare, c.note.ensures.spare);
      enough = omega (arith, ap length (gone c), ap length c.in-Some.ensures, inv.enough, c.note.ensures.spare);
    }

pub returns-clause-lists : goal.returns-clause-lists
returns-clause-lists c =
    let lists = student_lists c.loop-class.score in
    let first = student_lists c.args.score.now in
    let classes = c.args.classes.now in
    lists_from lists first c.args.student (kept_of (list_of first c.args.student) classes) c.loop-class.invariant.lists (sym (kept_all (list_of lists c.args.student) classes c.in_default.ensures) ∙ c.loop-class.invariant.kept)

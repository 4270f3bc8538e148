use Rattle.std.proofs.Common.{◌≡◌, ◌∙◌, ◌+◌, ◌∷◌, length, drop, get_or, refl, ap, sym, arith}
use Rattle.std.specs.Prelude.{[], slice_index, slice_set}
use Rattle.std.proofs.lemmas.List.{drop_all, set-set}
use Rattle.tt_base.specs.Lists.{is_listed}
use Rattle.tt_roster.specs.Lists.{list_of, with_class}
use Rattle.tt_roster.proofs.KeptLemmas.{list_is}
use Rattle.tt_score.specs.Fits.{student_lists}
use Rattle.tt_state.specs.Snapshots.{classes_in_order}
use Rattle.tt_state.specs.History.{come_to, seated_by}
use Rattle.tt_state.specs.Past.{joined}
use Rattle.tt_state.proofs.GoneLemmas.{drop_next, joined_is, length-joined, seat_next, stay_next}
use Rattle.tt_state.proofs.ListsLemmas.{list_now, lists_from}
use Rattle.tt_state.proofs.SeatLemmas.{length-ordered}
use Rattle.tt_state.proofs.lists.seat_come.Goals.{then-not-has_class, else-not-has_class}
use Rattle.tt_state.proofs.lists.seat_come.Goals as goal

pub loop-class-init : goal.loop-class-init
loop-class-init c =
    let p = c.args.problem.now in
    let score = c.args.score.now in
    let list = list_of (student_lists score) c.args.student in
    record {
      fits = c.requires.fits;
      planned = refl;
      closed = refl;
      lists = refl;
      becomes = joined_is (length p.classes) list c.args.classes.now (list_is p score.roster c.args.student c.requires.fits.roster c.requires.student) c.requires.classes c.requires.no_repeat c.requires.kept;
      entries = refl;
      spare = c.requires.spare;
      same = λ d has. refl;
      once = c.requires.no_repeat;
    }

pub seat-requires-clause-spare : goal.seat-requires-clause-spare
seat-requires-clause-spare c =
    let inv = c.loop-class.invariant in
    let classes = c.args.classes.now in
    let i = c.loop-class.class-index in
    let old = list_of (student_lists c.args.score.now) c.args.student in
    let list = list_of (student_lists c.loop-class.score) c.args.student in
    let next = seat_next old list (drop i classes) (drop (i + 1) classes) (get_or classes i 0) (drop_next classes i c.loop-class-test.true) inv.once inv.same (sym c.has_class.ensures ∙ c.if-not-has_class.true) in
    let most = ap (λ l. slice_index l c.args.student) inv.fits.roster.rows in
    omega (arith, length-joined list (come_to old (drop i classes)), ap length inv.becomes, length-ordered classes, ap length next.come, most, c.requires.few)

pub loop-class-preserved : goal.loop-class-preserved
loop-class-preserved c =
    let inv = c.loop-class.invariant in
    let student = c.args.student in
    let classes = c.args.classes.now in
    let i = c.loop-class.class-index in
    let class = get_or classes i 0 in
    let lists = student_lists c.loop-class.score in
    let old = list_of (student_lists c.args.score.now) student in
    let list = list_of lists student in
    let behind = drop i classes in
    let rest = drop (i + 1) classes in
    let is : behind ≡ class ∷ rest = drop_next classes i c.loop-class-test.true in
    elim c.if-not-has_class.branch [
      | then-not-has_class w ↦
          let next = seat_next old list behind rest class is inv.once inv.same (sym c.has_class.ensures ∙ w.if-not-has_class.true) in
          let now = list_now (student_lists w.seat.new.self) lists student (with_class class list) (omega (arith, c.requires.student, inv.fits.roster.students)) w.seat.ensures.lists in
          rw (w.score-is, w.past-is) (record {
            fits = w.seat.ensures.fits;
            planned = w.seat.ensures.plan ∙ inv.planned;
            closed = w.seat.ensures.closures ∙ inv.closed;
            lists = ap (λ l. slice_set l student []) w.seat.ensures.lists ∙ set-set lists student (with_class class list) [] ∙ inv.lists;
            becomes = ap (λ l. joined l (come_to old rest)) now ∙ sym (ap (joined list) next.come) ∙ inv.becomes;
            entries = ap (seated_by student (come_to old rest)) w.note.ensures.list ∙ sym (ap (λ l. seated_by student l c.loop-class.past.list) next.come) ∙ inv.entries;
            spare = omega (arith, ap length next.come, inv.spare, w.note.ensures.spare);
            same = λ d has. ap (is_listed d) now ∙ next.same d has;
            once = next.once;
          })
      | else-not-has_class w ↦
          let next = stay_next old list behind rest class is inv.once inv.same (sym c.has_class.ensures ∙ w.if-not-has_class.false) in
          rw (w.score-is, w.past-is) (record {
            fits = inv.fits;
            planned = inv.planned;
            closed = inv.closed;
            lists = inv.lists;
            becomes = sym (ap (joined list) next.come) ∙ inv.becomes;
            entries = sym (ap (λ l. seated_by student l c.loop-class.past.list) next.come) ∙ inv.entries;
            spare = omega (arith, ap length next.come, inv.spare);
            same = next.same;
            once = next.once;
          })
    ]

pub returns-clause-lists : goal.returns-clause-lists
returns-clause-lists c =
    let inv = c.loop-class.invariant in
    let classes = c.args.classes.now in
    let first = student_lists c.args.score.now in
    let lists = student_lists c.loop-class.score in
    let old = list_of first c.args.student in
    let list = list_of lists c.args.student in
    let none = drop_all c.loop-class.class-index classes c.loop-class-test.false in
    lists_from lists first c.args.student (classes_in_order classes) inv.lists (sym (ap (λ l. joined list (come_to old l)) none) ∙ inv.becomes)

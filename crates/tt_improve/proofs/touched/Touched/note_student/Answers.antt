use Rattle.std.proofs.Common.{◌≡◌, ℕ, ◌<◌, ◌∙◌, cond, List, length, refl, ap, arith, subst}
use Rattle.std.specs.Vec.{with_item, with_items}
use Rattle.std.proofs.lemmas.List.{with_items_is}
use Rattle.std.specs.Prelude.{slice_index}
use Rattle.std.specs.List.{AllByRecursion}
use Rattle.tt_base.specs.Lists.{is_listed}
use Rattle.tt_state.specs.Snapshots.{list_in}
use Rattle.tt_improve.specs.declared.touched.Touched.{Touched}
use Rattle.tt_improve.proofs.StudentLemmas.{list_below_at}
use Rattle.tt_improve.proofs.TouchedLemmas.{student_noted}
use Rattle.tt_improve.proofs.touched.Touched.note_student.Goals as goal

pub note_classes-requires : goal.note_classes-requires
note_classes-requires c =
    let h = c.args.state.now in
    let whole : length h.problem.classes ≡ length c.as_mut_slice.result.now = omega (arith, c.requires.whole.classes, ap (λ (l : List ℕ). length l) c.as_mut_slice.ensures.value) in
    subst (λ (n : ℕ). AllByRecursion (λ class. class < n) c.classes_of.result) whole (list_below_at h.problem h.present c.args.student c.classes_of.result c.soundness.ensures.present c.requires.student c.classes_of.ensures)

pub returns-clause-noted : goal.returns-clause-noted
returns-clause-noted c =
    let h = c.args.state.now in
    let new : Touched = record {
      any_class = c.args.self.now.any_class;
      classes = with_items c.args.self.now.classes c.note_classes.new.table;
      students = with_item c.args.self.now.students c.args.student c.args.stage;
      courses = with_item c.args.self.now.courses c.args.course c.args.stage;
    } in
    student_noted h.problem h.present c.args.self.now new c.args.student c.args.course c.args.stage (omega (arith, c.requires.whole.students, c.requires.student)) (omega (arith, c.requires.whole.courses, c.requires.course)) refl refl refl
    (λ k.
    ap (λ (l : List ℕ). slice_index l k) (with_items_is c.args.self.now.classes c.note_classes.new.table (c.note_classes.ensures.whole ∙ c.as_mut_slice.ensures.len)) ∙ c.note_classes.ensures.stages k ∙ ap (λ (l : List ℕ). cond (is_listed k l) c.args.stage (slice_index c.as_mut_slice.result.now k)) c.classes_of.ensures
    ∙ ap (λ (l : List ℕ). cond (is_listed k (list_in h.present c.args.student)) c.args.stage (slice_index l k)) c.as_mut_slice.ensures.value)

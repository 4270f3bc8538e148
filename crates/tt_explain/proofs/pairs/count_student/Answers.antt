use Rattle.std.proofs.Common.{◌≡◌, ◌+◌, ◌∙◌, ◌∷◌, [], drop, length, ap, refl, sym, arith}
use Rattle.std.proofs.lemmas.List.Elements.{All-get_or}
use Rattle.tt_roster.specs.Lists.{Ascends}
use Rattle.tt_roster.proofs.ListLemmas.{Ascends-lower}
use Rattle.tt_state.specs.Snapshots.{list_in}
use Rattle.tt_explain.specs.Student.{student_pairs}
use Rattle.tt_explain.specs.Pairs.{conflict_between}
use Rattle.tt_explain.proofs.ListLemmas.{drop-tail, length-ascending}
use Rattle.tt_explain.proofs.PairLemmas.{times_parted}
use Rattle.tt_explain.proofs.pairs.count_student.Goals as goal

pub loop-class-init : goal.loop-class-init
unfolding student_pairs
loop-class-init c =
    let s = c.args.state.now in
    let list = list_in s.present c.args.student in
    let after = length s.problem.classes in
    let all : c.into_iter-class-iterator.result ≡ list = c.into_iter-class-iterator.ensures.into_iter_gives ∙ c.classes_of-class-items.ensures in
    let sound = c.soundness.ensures.present.lists in
    let up : Ascends 0 after list = All-get_or (Ascends 0 after) s.present.lists c.args.student [] (omega (arith, sound.whole, c.requires.student)) sound.ordered in
    record {
      counted = λ class. rw all refl;
      left = all;
      few = omega (arith, ap length all, length-ascending 0 after list up (omega arith));
      ascends = rw all up;
    }

pub count_pairs_with-requires-clause-later : goal.count_pairs_with-requires-clause-later
count_pairs_with-requires-clause-later c =
    let s = c.args.state.now in
    let after = length s.problem.classes in
    let was = c.loop-class.invariant in
    let next : c.loop-class.class-iterator ≡ c.in-Some.class ∷ c.next.new.self = c.in-Some.ensures.steps in
    let up : Ascends 0 after (c.in-Some.class ∷ c.next.new.self) = rw next at was.ascends in
    let behind : c.classes_behind.result ≡ c.next.new.self = c.classes_behind.ensures ∙ drop-tail c.loop-class.place _ (list_in s.present c.args.student) c.in-Some.class _ refl (sym was.left ∙ next) in
    let whole : length c.loop-class.counts ≡ after = omega (arith, c.loop-class.auto.counts, c.requires.whole) in
    rw (behind, whole) (Ascends-lower (c.in-Some.class + 1) 0 after c.next.new.self up.2 (omega arith))

pub count_pairs_with-requires-clause-few : goal.count_pairs_with-requires-clause-few
count_pairs_with-requires-clause-few c = λ x.
    let s = c.args.state.now in
    let was = c.loop-class.invariant in
    let next : c.loop-class.class-iterator ≡ c.in-Some.class ∷ c.next.new.self = c.in-Some.ensures.steps in
    let behind : c.classes_behind.result ≡ c.next.new.self = c.classes_behind.ensures ∙ drop-tail c.loop-class.place _ (list_in s.present c.args.student) c.in-Some.class _ refl (sym was.left ∙ next) in
    let parted = times_parted (conflict_between s.problem s.present) x c.loop-class.class-iterator c.next.new.self c.in-Some.class next in
    rw behind (omega (arith, parted, was.counted x, c.requires.few x))

pub loop-class-preserved : goal.loop-class-preserved
loop-class-preserved c =
    let s = c.args.state.now in
    let after = length s.problem.classes in
    let related = conflict_between s.problem s.present in
    let was = c.loop-class.invariant in
    let next : c.loop-class.class-iterator ≡ c.in-Some.class ∷ c.next.new.self = c.in-Some.ensures.steps in
    let up : Ascends 0 after (c.in-Some.class ∷ c.next.new.self) = rw next at was.ascends in
    let behind : drop (c.loop-class.place + 1) (list_in s.present c.args.student) ≡ c.next.new.self = drop-tail c.loop-class.place _ (list_in s.present c.args.student) c.in-Some.class _ refl (sym was.left ∙ next) in
    record {
      counted = λ class.
          let added = rw (c.classes_behind.ensures ∙ behind) at c.count_pairs_with.ensures class in
          omega (arith, added, times_parted related class c.loop-class.class-iterator c.next.new.self c.in-Some.class next, was.counted class);
      left = sym behind;
      few = omega (arith, ap length next, was.few);
      ascends = Ascends-lower (c.in-Some.class + 1) 0 after c.next.new.self up.2 (omega arith);
    }

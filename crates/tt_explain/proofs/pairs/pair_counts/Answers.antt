use Rattle.std.proofs.Common.{◌≡◌, ◌-◌, List, ℕ, drop, length, ap, arith}
use Rattle.std.specs.Prelude.{slice_index}
use Rattle.tt_explain.specs.Pairs.{pairs_of}
use Rattle.tt_explain.proofs.PairLemmas.{none_counted, student_more, whole_written}
use Rattle.tt_explain.proofs.pairs.pair_counts.Goals as goal

pub loop-student-init : goal.loop-student-init
loop-student-init c =
    let s = c.args.state.now in
    let all : length s.problem.students - 0 ≡ length s.problem.students = omega arith in
    record {
      counted = λ class. rw (all, c.in_ok-counts.ensures.items_if_clones_equal (λ n clone. clone)) (omega (arith, none_counted c.class_count.result class, c.counts_add_up.ensures.all class));
      whole = omega (arith, c.in_ok-counts.ensures.len, c.class_count.ensures.count, ap (λ p. length p.classes) c.problem.ensures);
    }

pub count_student-requires-clause-few : goal.count_student-requires-clause-few
count_student-requires-clause-few c = λ class.
    let s = c.args.state.now in
    let more = student_more (pairs_of s.problem s.present class) c.loop-student.student (length s.problem.students) (omega (arith, c.loop-student-test.true, c.student_count-student-end.ensures.count, ap (λ p. length p.students) c.problem-2.ensures)) in
    rw c.deref_mut.ensures.value (omega (arith, more, c.loop-student.invariant.counted class, c.counts_add_up.ensures.few class))

pub loop-student-preserved : goal.loop-student-preserved
loop-student-preserved c =
    let s = c.args.state.now in
    let was = c.loop-student.invariant in
    let counts = c.count_student.new.counts in
    let long : c.loop-student.counts.len ≡ length counts = omega (arith, c.deref_mut.ensures.len, c.count_student.auto.counts) in
    let written = whole_written c.loop-student.counts.len counts (drop (length counts) c.loop-student.counts.items) long in
    record {
      counted = λ class.
          let more = student_more (pairs_of s.problem s.present class) c.loop-student.student (length s.problem.students) (omega (arith, c.loop-student-test.true, c.student_count-student-end.ensures.count, ap (λ p. length p.students) c.problem-2.ensures)) in
          let before : slice_index c.deref_mut.result.now class ≡ slice_index c.loop-student.counts.items class = ap (λ (l : List ℕ). slice_index l class) c.deref_mut.ensures.value in
          rw written (omega (arith, c.count_student.ensures class, before, more, was.counted class));
      whole = rw written (omega (arith, c.count_student.auto.counts, ap length c.deref_mut.ensures.value, was.whole));
    }

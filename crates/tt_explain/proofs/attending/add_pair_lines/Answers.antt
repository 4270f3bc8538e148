use Rattle.std.proofs.Common.{◌≡◌, ◌+◌, ◌++◌, [], ◌∷◌, List, ℕ, length, drop, ap, refl, sym, ◌∙◌, arith, rules}
use Rattle.std.specs.List.{flat_map}
use Rattle.std.proofs.lemmas.List.Elements.{All-get_or}
use Rattle.tt_roster.specs.Lists.{Ascends}
use Rattle.tt_state.specs.Snapshots.{list_in}
use Rattle.tt_verify.specs.Pairs.{pairs_with, related_pairs}
use Rattle.tt_explain.specs.Student.{student_pairs, pair_line}
use Rattle.tt_explain.specs.Pairs.{conflict_between}
use Rattle.tt_explain.proofs.LineLemmas.{next_written, all_written, related_lines-more, pair_lines-none}
use Rattle.tt_explain.proofs.ListLemmas.{drop-tail, length-ascending}
use Rattle.tt_explain.proofs.attending.add_pair_lines.Goals as goal

pub loop-class-init : goal.loop-class-init
unfolding student_pairs
loop-class-init c =
    let s = c.args.state.now in
    let list = list_in s.present c.args.student in
    let all : c.into_iter-class-iterator.result ≡ list = c.into_iter-class-iterator.ensures.into_iter_gives ∙ c.classes_of-class-items.ensures in
    let sound = c.soundness.ensures.present.lists in
    let up : Ascends 0 (length s.problem.classes) list = All-get_or (Ascends 0 (length s.problem.classes)) s.present.lists c.args.student [] (omega (arith, sound.whole, c.requires)) sound.ordered in
    record {
      lines = ap (λ (left : List ℕ). c.args.out.now ++ flat_map (pair_line s.problem) (related_pairs (conflict_between s.problem s.present) left)) all;
      left = all;
      few = omega (arith, ap length all, length-ascending 0 (length s.problem.classes) list up (omega arith));
    }

pub loop-class-preserved : goal.loop-class-preserved
loop-class-preserved c =
    let s = c.args.state.now in
    let next : c.loop-class.class-iterator ≡ c.in-Some.class ∷ c.next.new.self = search rules in
    let behind : drop (c.loop-class.place + 1) (list_in s.present c.args.student) ≡ c.next.new.self =
    drop-tail c.loop-class.place _ (list_in s.present c.args.student) c.in-Some.class _ refl (sym c.loop-class.invariant.left ∙ next) in
    record {
      lines = next_written _ _ _ _ _ _ c.loop-class.invariant.lines
          (related_lines-more s.problem (conflict_between s.problem s.present) _ _ _ next)
          (c.in_ok-add_pairs_with.ensures ∙ ap (λ (later : List ℕ). c.loop-class.out ++ flat_map (pair_line s.problem) (pairs_with (conflict_between s.problem s.present) c.in-Some.class later)) (c.classes_behind.ensures ∙ behind));
      left = sym behind;
      few = omega (arith, ap length next, c.loop-class.invariant.few);
    }

pub returns : goal.returns
returns c =
    let s = c.args.state.now in
    let none : c.loop-class.class-iterator ≡ [] = search rules in
    all_written _ _ _ c.loop-class.invariant.lines
    (ap (λ (left : List ℕ). flat_map (pair_line s.problem) (related_pairs (conflict_between s.problem s.present) left)) none ∙ pair_lines-none s.problem)

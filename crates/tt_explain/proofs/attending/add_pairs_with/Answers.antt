use Rattle.std.proofs.Common.{◌≡◌, [], ◌∷◌, List, ℕ, ap, ◌∙◌, rules}
use Rattle.std.specs.List.{flat_map}
use Rattle.tt_verify.specs.Pairs.{pairs_with}
use Rattle.tt_explain.specs.Student.{pair_line}
use Rattle.tt_explain.specs.Pairs.{conflict_between}
use Rattle.tt_explain.proofs.LineLemmas.{next_written, all_written, pair_lines-more, pair_lines-none}
use Rattle.tt_explain.proofs.attending.add_pairs_with.Goals as goal

pub loop-other-preserved : goal.loop-other-preserved
loop-other-preserved c =
    let s = c.args.state.now in
    let next : c.loop-other.other-iterator ≡ c.in-Some.other ∷ c.next.new.self = search rules in
    next_written _ _ _ _ _ _ c.loop-other.invariant
    (pair_lines-more s.problem (conflict_between s.problem s.present) c.args.class _ _ _ next)
    c.in_ok-add_pair.ensures

pub returns : goal.returns
returns c =
    let s = c.args.state.now in
    let none : c.loop-other.other-iterator ≡ [] = search rules in
    all_written _ _ _ c.loop-other.invariant
    (ap (λ (left : List ℕ). flat_map (pair_line s.problem) (pairs_with (conflict_between s.problem s.present) c.args.class left)) none ∙ pair_lines-none s.problem)

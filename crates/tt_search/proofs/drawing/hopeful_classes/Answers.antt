use Rattle.std.proofs.Common.{◌≡◌, ◌++◌, ◌∷◌, [], false, length, ap, sym, ◌∙◌, arith}
use Rattle.std.proofs.lemmas.List.FromFn.{map-range_with_len_more, length-map-range_with_len, get_or-map-range_with_len}
use Rattle.tt_search.specs.Turns.{has_open_value}
use Rattle.tt_search.proofs.ListLemmas.{on_err}
use Rattle.tt_search.proofs.drawing.hopeful_classes.Goals as goal

pub returns-in_err-push-clause-memory : goal.returns-in_err-push-clause-memory
returns-in_err-push-clause-memory c = on_err c.from_residual.result (omega (arith, rw c.problem.ensures at c.class_count-class-end.ensures.count))

pub loop-class-preserved : goal.loop-class-preserved
loop-class-preserved c =
    let items : c.push.new.self.items ≡ c.loop-class.flags.items ++ c.has_open_value.result ∷ [] = c.in_ok-push.ensures.items in
    items ∙ rw (c.loop-class.invariant, c.has_open_value.ensures) (sym (map-range_with_len_more (has_open_value c.args.state.now.problem c.args.state.now.present.closures) 0 c.loop-class.class c.loop-class.class (omega arith)))

pub returns-clause-whole : goal.returns-clause-whole
returns-clause-whole c =
    let all : c.loop-class.class ≡ length c.args.state.now.problem.classes = omega (arith, rw c.problem.ensures at c.class_count-class-end.ensures.count) in
    rw all at (ap length c.loop-class.invariant ∙ length-map-range_with_len (has_open_value c.args.state.now.problem c.args.state.now.present.closures) 0 c.loop-class.class)

pub returns-clause-hopeful : goal.returns-clause-hopeful
returns-clause-hopeful c =
    let all : c.loop-class.class ≡ length c.args.state.now.problem.classes = omega (arith, rw c.problem.ensures at c.class_count-class-end.ensures.count) in
    λ class within. rw c.loop-class.invariant (get_or-map-range_with_len (has_open_value c.args.state.now.problem c.args.state.now.present.closures) 0 c.loop-class.class class class false (omega (arith, all, within)) (omega arith))

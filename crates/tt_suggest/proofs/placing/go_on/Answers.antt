use Rattle.std.proofs.Common.{◌≡◌, ◌<◌, ◌++◌, length, ap, subst, sym, arith, length-append}
use Rattle.std.specs.Prelude.{All}
use Rattle.std.proofs.lemmas.List.Elements.{All-append}
use Rattle.tt_suggest.proofs.WaitingLemmas.{first_within}
use Rattle.tt_suggest.proofs.placing.go_on.Goals as goal

pub returns-clause-branch : goal.returns-clause-branch
returns-clause-branch c =
    let branch = c.args.branch.now in
    let n = length c.args.state.now.problem.classes in
    let taken = c.taken.result.now in
    let waiting : c.in_ok-waiting.waiting.items ≡ branch.others.items ++ taken = c.in_ok-waiting.ensures in
    let all = subst (λ classes. All (λ other. other < n) classes) (sym waiting) (All-append (λ other. other < n) branch.others.items taken c.requires.branch.others c.taken.ensures.within) in
    let some : 0 < length c.in_ok-waiting.waiting.items = omega (arith, c.requires.some, ap length c.taken.ensures.classes, simp length-append at (ap length waiting)) in
    let within = first_within n c.in_ok-waiting.waiting.items c.remove-class.new.self.items c.remove-class.result all some c.remove-class.ensures.value c.remove-class.ensures.items in
    record {
      class = within.0;
      others = within.1;
      spare = omega (arith, c.requires.branch.spare);
      moved = c.in_ok-moved.ensures.moved;
    }

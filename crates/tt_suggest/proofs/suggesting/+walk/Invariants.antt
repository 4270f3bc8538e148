use Rattle.std.proofs.Common.{◌+◌, ◌*◌, suc, map}
use Rattle.tt_base.specs.Lists.{least_after}
use Rattle.tt_suggest.specs.Suggestions.{suggestion_rank, suggestion_of}
use Rattle.tt_suggest.specs.Tree.{leaves_of, tries_of}
use Rattle.tt_suggest.specs.Walks.{IsBack, node_of}
use Rattle.tt_suggest.proofs.TreeLemmas.{IsOnWay}
use Rattle.tt_suggest.proofs.suggesting.+walk.Given as goal

abbrev pub decreases-walk : goal.decreases-walk
decreases-walk l = 3 * l.branch.now.spare + 2

abbrev pub decreases-try_value : goal.decreases-try_value
decreases-try_value l = 3 * l.branch.now.spare + 1

abbrev pub decreases-descend : goal.decreases-descend
decreases-descend l = 3 * l.branch.now.spare

abbrev pub invariant-walk-loop-k : goal.invariant-walk-loop-k
invariant-walk-loop-k l =
    let start = l.fn.state in
    let aim = l.aim in
    let node = node_of start.present l.branch in
    record {
      back : IsBack start l.state;
      on : IsOnWay start.problem aim start.present l.branch l.found l.k
          (l.fn.found.tried + tries_of start.problem (suc l.branch.spare) node)
          (least_after suggestion_rank l.fn.found.best (map (suggestion_of start.problem aim) (leaves_of start.problem (suc l.branch.spare) node)));
    }

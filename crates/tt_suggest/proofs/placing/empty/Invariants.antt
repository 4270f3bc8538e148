use Rattle.std.proofs.Common.{◌≡◌, take}
use Rattle.tt_published.specs.Published.{moved_in}
use Rattle.tt_suggest.specs.Walks.{emptied}
use Rattle.tt_suggest.specs.Walks.{HasGoneOn}
use Rattle.tt_suggest.proofs.placing.empty.Given as goal

abbrev pub invariant-loop-class : goal.invariant-loop-class
invariant-loop-class l =
    let start = l.fn.state in
    record {
      on : HasGoneOn start l.state;
      moved : l.moved ≡ moved_in start.problem l.aim l.state.present.plan;
      locks : l.state.present.locks ≡ start.present.locks;
      present : l.state.present ≡ emptied start.present (take l.class-index l.classes);
    }

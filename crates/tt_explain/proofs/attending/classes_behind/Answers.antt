use Rattle.std.proofs.Common.{◌≡◌, ◌∙◌, drop, ap, refl, arith}
use Rattle.tt_state.specs.Snapshots.{list_in}
use Rattle.tt_explain.proofs.ListLemmas.{behind_next}
use Rattle.tt_explain.proofs.attending.classes_behind.Goals as goal

pub loop-preserved : goal.loop-preserved
loop-preserved c = behind_next (list_in c.args.state.now.present c.args.student) c.loop.classes c.next.new.self c.next.result c.loop.counter _ refl c.loop.invariant c.next.ensures.steps

pub returns : goal.returns
returns c =
    let all : c.loop.counter ≡ c.args.count = omega arith in
    c.loop.invariant ∙ ap (λ k. drop k (list_in c.args.state.now.present c.args.student)) all

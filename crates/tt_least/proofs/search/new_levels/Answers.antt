use Rattle.std.proofs.Common.{[], ◌∷◌, arith, length-append}
use Rattle.std.proofs.lemmas.List.Elements.{All-push}
use Rattle.tt_least.specs.Nodes.{HasPlaces}
use Rattle.tt_least.proofs.search.new_levels.Goals as goal

pub loop-preserved : goal.loop-preserved
loop-preserved c =
    let levels = c.loop.levels.items in
    let level = c.in_ok-new_level.field-0 in
    record {
      places = rw c.in_ok-push.ensures.items (All-push (HasPlaces c.args.size) levels level c.loop.invariant.places c.in_ok-new_level.ensures);
      deep = rw c.in_ok-push.ensures.items (omega (arith, length-append levels (level ∷ []), c.loop.invariant.deep));
    }

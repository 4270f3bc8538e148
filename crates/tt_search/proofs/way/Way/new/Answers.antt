use Rattle.std.proofs.Common.{refl}
use Rattle.tt_search.proofs.MovedLemmas.{moved_is}
use Rattle.tt_search.proofs.way.Way.new.Goals as goal

pub returns : goal.returns
returns c =
    let now = c.args.state.now in
    let aim = c.args.aim.now in
    record {
      at = record { candidates = c.in_ok-candidates.ensures; moved = c.in_ok-moved.ensures.moved; room = c.in_ok-least.ensures };
      ranked = c.rank_now-rank.ensures aim (moved_is now.problem aim now.present c.in_ok-moved.moved c.requires c.in_ok-moved.ensures.moved);
      first = refl;
    }

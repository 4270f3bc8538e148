-- The flags are as many as before, and the buffer of the best keeps its length.
use Rattle.std.proofs.Common.{◌≡◌, List, length, arith, sym, ◌∙◌}
use Rattle.std.specs.Prelude.{Vec}
use Rattle.std.specs.Vec.{with_items}
use Rattle.least_tests.proofs.least_tests.found.Goals as goal

-- a list that is written over keeps its length
length-with_items : {X Z : Type 0} (v : Vec X Z) (ws : List X) → length (with_items v ws).items ≡ length v.items
length-with_items v ws = sym (with_items v ws).ok.0 ∙ v.ok.0

pub least-requires-clause-room : goal.least-requires-clause-room
least-requires-clause-room c =
    let r = c.in_ok-search.ensures in
    record {
      few = r.few;
      levels = r.levels;
      deep = r.deep;
      groups = r.groups;
      costs = r.costs;
      leasts = r.leasts;
      front = r.front;
      best = r.best;
      left = length-with_items c.in_ok-search.search.left c.copy_from_slice.new.self ∙ r.left;
      trial = r.trial;
    }

pub index-requires : goal.index-requires
index-requires c = omega (arith, c.least.ensures.room.best)

pub index-requires-in-Some : goal.index-requires-in-Some
index-requires-in-Some c = omega (arith, c.least.ensures.room.best)

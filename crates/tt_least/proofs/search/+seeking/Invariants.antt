use Rattle.std.proofs.Common.{◌≡◌, ℕ, ◌+◌, ◌*◌, ◌<◌, true, List, All, length}
use Rattle.std.specs.Prelude.{slice_index_or}
use Rattle.tt_least.specs.Judged.{is_allowed, pairs_in}
use Rattle.tt_least.specs.Nodes.{HasPlaces, IsOf}
use Rattle.tt_least.specs.Results.{IsReady}
use Rattle.tt_least.proofs.search.+seeking.Given as goal

abbrev pub decreases-seek : goal.decreases-seek
decreases-seek l = 3 * length l.deeper.now + 2

abbrev pub decreases-seek_below : goal.decreases-seek_below
decreases-seek_below l = 3 * length l.deeper.now + 1

abbrev pub decreases-seek_with : goal.decreases-seek_with
decreases-seek_with l = 3 * length l.rest.now + 3

abbrev pub invariant-seek_below-loop-class : goal.invariant-seek_below-loop-class
invariant-seek_below-loop-class l = record {
  ready : IsReady l.table l.scratch;
  child : HasPlaces l.table.size l.child;
  rest : All (HasPlaces l.table.size) l.rest;
  vain : (choice : List ℕ) → IsOf l.table l.level choice → slice_index_or choice l.part 0 < l.class → is_allowed l.table choice ≡ true → l.limit < pairs_in l.table choice;
  best : l.scratch.best.items ≡ l.fn.scratch.best.items;
}

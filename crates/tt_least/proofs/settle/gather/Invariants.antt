use Rattle.std.proofs.Common.{◌≡◌, ℕ, ◌<◌, length, get_or}
use Rattle.tt_least.specs.declared.groups.Groups.{Groups}
use Rattle.tt_least.specs.Prices.{AreGroups, HasRoomForGroups}
use Rattle.tt_least.proofs.settle.gather.Given as goal

abbrev pub invariant-loop-place : goal.invariant-loop-place
invariant-loop-place l = record {
  long : length l.search.scratch.groups.items ≡ length l.initial.search.scratch.groups.items;
  room : (k : ℕ) (d : Groups) → k < length l.search.scratch.groups.items → HasRoomForGroups l.table.size (get_or l.search.scratch.groups.items k d);
  passed : (k : ℕ) (d : Groups) → k < l.place → AreGroups l.table (get_or l.search.scratch.groups.items k d);
  levels : l.search.levels ≡ l.initial.search.levels;
  costs : l.search.scratch.costs ≡ l.initial.search.scratch.costs;
  leasts : l.search.scratch.leasts ≡ l.initial.search.scratch.leasts;
  front : l.search.scratch.front ≡ l.initial.search.scratch.front;
  best : l.search.scratch.best ≡ l.initial.search.scratch.best;
  left : l.search.left ≡ l.initial.search.left;
  trial : length l.search.trial.items ≡ length l.initial.search.trial.items;
}

use Rattle.std.proofs.Common.{◌≡◌, ℕ, ◌<◌, ◌≤◌, All, get_or}
use Rattle.tt_least.specs.Limits.{most_price}
use Rattle.tt_least.specs.Prices.{HasRoomForGroups, owed_of}
use Rattle.tt_least.proofs.gather.part_all.Given as goal

abbrev pub invariant-loop-place : goal.invariant-loop-place
invariant-loop-place l = record {
  room : HasRoomForGroups l.table.size l.groups;
  few : All (λ price. price ≤ most_price) l.groups.prices.items;
  owed : l.groups.owed ≡ owed_of l.groups.prices.items;
  count : l.groups.count ≡ 0;
  own : (k : ℕ) → k < l.place → get_or l.groups.group_of.items k 0 ≡ k;
  names : (k : ℕ) → k < l.place → get_or l.groups.names.items k 0 ≡ k;
}

use Rattle.std.proofs.Common.{◌≡◌, ◌≤◌, count_by, take, false}
use Rattle.std.specs.Option.{option_map_or}
use Rattle.tt_pair.specs.Listed.{is_violated_by}
use Rattle.tt_pair.proofs.violated_by.Given as goal

abbrev pub invariant-loop-member : goal.invariant-loop-member
invariant-loop-member l = record {
  count : l.violated ≡ count_by (λ s. option_map_or (is_violated_by l.kind l.travel l.spot l.listed) s false) (take l.member-index l.members);
  few : l.violated ≤ l.member-index;
}

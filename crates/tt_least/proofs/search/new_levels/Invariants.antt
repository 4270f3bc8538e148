use Rattle.std.proofs.Common.{◌≡◌, All, length}
use Rattle.tt_least.specs.Nodes.{HasPlaces}
use Rattle.tt_least.proofs.search.new_levels.Given as goal

abbrev pub invariant-loop : goal.invariant-loop
invariant-loop l = record { places : All (HasPlaces l.size) l.levels.items; deep : length l.levels.items ≡ l.counter }

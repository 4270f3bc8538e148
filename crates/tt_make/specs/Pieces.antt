-- Proof. The texts of keys that stand behind another key.
use Rattle.std.specs.Prelude.{ℕ, ◌-◌, ◌%◌, ◌==◌, List, [], ◌++◌, Option, Some, None, if◌then◌else◌, codes, decimal}
use Rattle.serde_json.specs.Data.{Data}
use Rattle.serde_json.specs.Written.{compact_text}
use Rattle.tt_make.specs.Values.{list}

abbrev pub parent_text : Option ℕ → List ℕ
parent_text None = []
parent_text (Some id) = codes ",\"parent\":" ++ decimal id

abbrev pub rooms_text : Option (List Data) → List ℕ
rooms_text None = codes ",\"room\":false"
rooms_text (Some rooms) = codes ",\"rooms\":" ++ compact_text (list rooms)

abbrev pub travel_text : Option Data → List ℕ
travel_text None = []
travel_text (Some entries) = codes ",\"travel\":" ++ compact_text entries

-- that every fifth room is closed on Friday afternoons
abbrev pub closed_text : ℕ → List ℕ
closed_text id = if id % 5 == 0 then codes ",\"unavailable\":[{\"days\":\"0000100\",\"length\":24,\"start\":192,\"weeks\":\"1111111111111\"}]" else []

-- that the distribution over the classes of course k is required, or its penalty
abbrev pub strength_text : ℕ → ℕ → List ℕ
strength_text k penalty = if (k - 1) % 4 == 0 then codes ",\"required\":true" else codes ",\"penalty\":" ++ decimal penalty

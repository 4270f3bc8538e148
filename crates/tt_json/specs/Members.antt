-- Contract. What a key that may have no value adds to an object.
use Rattle.std.specs.Prelude.{ℕ, List, Option, Some, None}
use Rattle.serde_json.specs.Data.{Data, Members, put}

-- the members, with the value at the key, where there is one
abbrev pub put_if : List ℕ → Option Data → Members → Members
put_if key None members = members
put_if key (Some value) members = put key value members

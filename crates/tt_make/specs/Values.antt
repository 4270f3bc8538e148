-- Theorem. The JSON values that the parts of a problem are built of.
use Rattle.std.specs.Prelude.{ℕ, List, [], Option, Some, None, slice_get, unwrap_or}
use Rattle.serde_json.specs.Data.{Data, number, unsigned, array, Members, member}
use Rattle.serde_json.specs.View.{items_of}

-- a number as JSON
abbrev pub num : ℕ → Data
num n = number (unsigned n)

-- a list as JSON
abbrev pub list : List Data → Data
list values = array (items_of values)

-- the word of a list with this number, counted from 0
abbrev pub word_at : List (List ℕ) → ℕ → List ℕ
word_at words k = unwrap_or (slice_get words k) []

-- a key with its value, where there is one, before the other keys
abbrev pub key_if_some : List ℕ → Option Data → Members → Members
key_if_some key None rest = rest
key_if_some key (Some value) rest = member key value rest

-- The law of the texts of types.
use Rattle.std.proofs.Common.{◌≡◌, ℕ, ◌≤◌, Some, refl}
use Rattle.std.proofs.lemmas.Bool.{le-leb}
use Rattle.tt_problem.specs.declared.parts.DistKind.{DistKind}
use Rattle.tt_problem.specs.Kinds.{naming_of}
use Rattle.tt_problem.proofs.KindLemmas.{each_named}
use Rattle.tt_types.specs.Laws.{AreShort}
use Rattle.tt_types.specs.Types.{type_in}
use Rattle.tt_types.specs.TypeTexts.{type_text}
use Rattle.tt_types.proofs.ReadBackLemmas.{parameters-read}

-- a type that is written is read back, in each version of a problem file that has it
pub written_is_read : (kind : DistKind) (version : ℕ) → AreShort (naming_of kind).parameters → (naming_of kind).since ≤ version → type_in version (type_text kind) ≡ Some kind
unfolding type_in type_text
written_is_read kind version short since =
    let own_name = each_named kind in
    let found = parameters-read kind (naming_of kind).name (naming_of kind).parameters own_name.plain own_name.found short in
    let has = le-leb (naming_of kind).since version since in
    rw (found, has) refl

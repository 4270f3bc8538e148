-- Places of what is referred to.
use Rattle.std.proofs.Common.{◌≡◌, ℕ, suc, ◌<◌, ◌≤◌, List, length, Option, Some, None, Result, Ok, refl, sym, ap, ◌∙◌, arith}
use Rattle.std.specs.Prelude.{IfOk, IfSome, option_map, codes}
use Rattle.std.specs.Option.{option_map_or}
use Rattle.std.proofs.lemmas.Result.{IfOk-at_ok}
use Rattle.serde_json.specs.Data.{Items, no_items, item}
use Rattle.serde_json.specs.Find.{as_object}
use Rattle.serde_json.specs.Events.{items_len}
use Rattle.serde_json.specs.View.{items_view}
use Rattle.serde_json.specs.declared.value.Value.{Value}
use Rattle.tt_fields.specs.declared.faults.Wrong.TheVariants.{NotOfKind}
use Rattle.tt_fields.specs.declared.references.Known.{Known}
use Rattle.tt_fields.specs.Path.{at}
use Rattle.tt_fields.specs.Answer.{Field, Fault, fault}
use Rattle.tt_fields.specs.Kinds.{a_number, items_at, place_of, a_reference, required, value_at}
use Rattle.tt_fields.specs.List.{known_of, IsAmong}
use Rattle.tt_fields.proofs.Chain.{after}
use Rattle.tt_fields.proofs.Walk.{items_count}
use Rattle.tt_tree.specs.Context.{HasIds}

length_from : (path : List ℕ) (i : ℕ) (ds : Items) → length (items_at path i ds) ≡ items_len ds
length_from path i no_items = refl
length_from path i (item d ds) = ap suc (length_from path (suc i) ds)

-- a list has as many parts as values
pub items_length : (path : List ℕ) (i : ℕ) (vs : List Value) → length (items_at path i (items_view vs)) ≡ length vs
items_length path i vs = length_from path i (items_view vs) ∙ items_count vs

-- ---- while references are not looked up, each has place 0

abbrev IsZero : ℕ → Type 0
IsZero n = n ≡ 0

place_unknown : (p : Field) → IfOk (place_of None p) IsZero
place_unknown p = after IsZero (a_number 0 4294967295 p) _ (λ x is. refl)

required_unknown : (read : Field → Result ℕ Fault) → ((p : Field) → IfOk (read p) IsZero) → (key : List ℕ) (o : Field) → IfOk (required read key o) IsZero
unfolding required
required_unknown read h key o = elim (value_at key o) as (λ v. IfOk (option_map_or read v (fault NotOfKind (at o.path key))) IsZero) [ None ↦ tt | Some p ↦ h p ]

reference_unknown : (p : Field) → IfOk (a_reference None p) IsZero
unfolding a_reference
reference_unknown p = elim (as_object p.value) as (λ ms. IfOk (option_map_or (λ members. required (place_of None) (codes "id") p) ms (place_of None p)) IsZero) [ None ↦ place_unknown p | Some ms ↦ required_unknown (place_of None) place_unknown (codes "id") p ]

below_of : {I : Type 0} (keys : I → List ℕ) (ids : Option I) (n to : ℕ) → 0 < n → IfSome ids (λ x. length (keys x) ≤ n) → IfSome ids (λ x. to < length (keys x))
    → (option_map keys ids ≡ None → to ≡ 0) → to < n
below_of keys None n to some most among zero = let e : to ≡ 0 = zero refl in omega arith
below_of keys (Some x) n to some most among zero = omega (arith, most, among)

-- the place of a reference is below n, where no more than n ids are known
pub below_rooms : (k : Known) (n to : ℕ) (key : List ℕ) (o : Field) → 0 < n → HasIds k n → IsAmong k to → required (a_reference (known_of k)) key o ≡ Ok to → to < n
below_rooms k n to key o some most among is =
    below_of (λ ids. ids.now.keys) k.ids n to some most.most among
    (λ none. IfOk-at_ok IsZero (ap (λ (ids : Option (List ℕ)). required (a_reference ids) key o) (sym none) ∙ is) (required_unknown (a_reference None) reference_unknown key o))

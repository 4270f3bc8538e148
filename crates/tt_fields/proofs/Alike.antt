-- What is read with ids known is read with none known too.
use Rattle.std.proofs.Common.{◌≡◌, ℕ, List, [], ◌∷◌, ◌++◌, map, Option, Some, None, Result, Ok, Err, refl, sym, ap, subst, ◌∙◌, codes}
use Rattle.std.specs.Option.{option_map_or}
use Rattle.std.proofs.lemmas.List.{map-append}
use Rattle.serde_json.specs.Find.{as_object}
use Rattle.tt_fields.specs.declared.faults.Wrong.TheVariants.{NotOfKind, UnknownId}
use Rattle.tt_fields.specs.Path.{at}
use Rattle.tt_base.specs.Chain.{◌>>=◌}
use Rattle.tt_fields.specs.Answer.{Field, Fault, fault}
use Rattle.tt_fields.specs.Kinds.{a_number, or_fault, value_at, required, optional, or_else, placed_in, place_of, a_reference, each, pushed, each_as}

-- where the first reads a value, the second reads one too, and P holds of the two
abbrev pub Alike : {A B : Type 0} → (A → B → Type 0) → Result A Fault → Result B Fault → Type 0
Alike P (Err e) other = Unit {0}
Alike P (Ok x) (Ok y) = P x y
Alike P (Ok x) (Err e) = ⊥

-- any two values
abbrev pub Any : {A B : Type 0} → A → B → Type 0
Any x y = Unit {0}

-- the value that is read too
pub read_too : {A B : Type 0} (P : A → B → Type 0) (x : A) (other : Result B Fault) → Alike P (Ok x) other → (y : B) × (other ≡ Ok y) × P x y
read_too P x (Ok y) h = (y, refl, h)
read_too P x (Err e) h = absurd h

-- two readings that are the same
pub equal_alike : {A : Type 0} (r other : Result A Fault) → r ≡ other → Alike Any r other
equal_alike (Ok x) other same = subst (λ (q : Result _ Fault). Alike Any (Ok x) q) same tt
equal_alike (Err e) other same = tt

-- what holds of the two values is left out
pub any_alike : {A B : Type 0} (P : A → B → Type 0) (r : Result A Fault) (other : Result B Fault) → Alike P r other → Alike Any r other
any_alike P (Err e) other h = tt
any_alike P (Ok x) (Ok y) h = tt
any_alike P (Ok x) (Err e) h = absurd h

-- ---- one reading after another

pub then_alike : {A B X Y : Type 0} (P : A → B → Type 0) (Q : X → Y → Type 0) (r : Result A Fault) (other : Result B Fault) (f : A → Result X Fault) (g : B → Result Y Fault)
    → Alike P r other → ((x : A) (y : B) → P x y → Alike Q (f x) (g y)) → Alike Q (r >>= f) (other >>= g)
then_alike P Q (Err e) other f g h next = tt
then_alike P Q (Ok x) (Ok y) f g h next = next x y h
then_alike P Q (Ok x) (Err e) f g h next = absurd h

-- after the same reading
pub after_alike : {A X Y : Type 0} (Q : X → Y → Type 0) (r : Result A Fault) (f : A → Result X Fault) (g : A → Result Y Fault)
    → ((x : A) → Alike Q (f x) (g x)) → Alike Q (r >>= f) (r >>= g)
after_alike Q (Ok x) f g next = next x
after_alike Q (Err e) f g next = tt

-- after two readings that are the same
pub same_alike : {A X Y : Type 0} (Q : X → Y → Type 0) (r other : Result A Fault) (f : A → Result X Fault) (g : A → Result Y Fault)
    → r ≡ other → ((x : A) → Alike Q (f x) (g x)) → Alike Q (r >>= f) (other >>= g)
same_alike Q r other f g same next = subst (λ (q : Result _ Fault). Alike Q (r >>= f) (q >>= g)) same (after_alike Q r f g next)

-- ---- presences

pub required_alike : {A B : Type 0} (P : A → B → Type 0) (read : Field → Result A Fault) (other : Field → Result B Fault)
    → ((p : Field) → Alike P (read p) (other p)) → (key : List ℕ) (o : Field) → Alike P (required read key o) (required other key o)
unfolding required
required_alike P read other h key o =
    elim (value_at key o) as (λ v. Alike P (option_map_or read v (fault NotOfKind (at o.path key))) (option_map_or other v (fault NotOfKind (at o.path key)))) [ None ↦ tt | Some p ↦ h p ]

pub optional_alike : {A B : Type 0} (read : Field → Result A Fault) (other : Field → Result B Fault)
    → ((p : Field) → Alike Any (read p) (other p)) → (key : List ℕ) (o : Field) → Alike Any (optional read key o) (optional other key o)
unfolding optional or_else
optional_alike read other h key o =
    elim (value_at key o) as (λ v. Alike Any (option_map_or (λ p. read p >>= λ x. Ok (Some x)) v (Ok None)) (option_map_or (λ p. other p >>= λ x. Ok (Some x)) v (Ok None)))
    [ None ↦ tt | Some p ↦ then_alike Any Any (read p) (other p) _ _ (h p) (λ x y k. tt) ]

-- ---- references

pub place_alike : (ids : Option (List ℕ)) (p : Field) → Alike Any (place_of ids p) (place_of None p)
place_alike ids p =
    after_alike Any (a_number 0 4294967295 p) _ _ (λ id.
    elim (placed_in ids id) as (λ place. Alike {B = ℕ} Any (or_fault UnknownId p place) (or_fault UnknownId p (Some 0))) [ None ↦ tt | Some place ↦ tt ])

pub reference_alike : (ids : Option (List ℕ)) (p : Field) → Alike Any (a_reference ids p) (a_reference None p)
unfolding a_reference
reference_alike ids p =
    elim (as_object p.value) as (λ ms. Alike Any (option_map_or (λ members. required (place_of ids) (codes "id") p) ms (place_of ids p))
    (option_map_or (λ members. required (place_of None) (codes "id") p) ms (place_of None p)))
    [ None ↦ place_alike ids p | Some ms ↦ required_alike Any (place_of ids) (place_of None) (place_alike ids) (codes "id") p ]

-- ---- lists

pub each_alike : {S T : Type 0} (P : S → T → Type 0) (read : Field → S → Result S Fault) (other : Field → T → Result T Fault)
    → ((p : Field) (s : S) (t : T) → P s t → Alike P (read p s) (other p t)) → (ps : List Field) (s : S) (t : T) → P s t → Alike P (each read ps s) (each other ps t)
each_alike P read other step [] s t h = h
each_alike P read other step (p ∷ ps) s t h =
    then_alike P P (read p s) (other p t) (each read ps) (each other ps) (step p s t h) (λ x y k. each_alike P read other step ps x y k)

pub each_as_alike : {A B : Type 0} (read : Field → Result A Fault) (other : Field → Result B Fault)
    → ((p : Field) → Alike Any (read p) (other p)) → (ps : List Field) → Alike Any (each_as read ps) (each_as other ps)
each_as_alike read other h ps =
    each_alike Any (pushed read) (pushed other) (λ p s t any. then_alike Any Any (read p) (other p) _ _ (h p) (λ x y k. tt)) ps [] [] tt

-- the ids of two lists with one more item each, of the same id
pub ids_push : {X : Type 0} (id_of : X → ℕ) (xs ys : List X) (x y : X) → map id_of xs ≡ map id_of ys → id_of x ≡ id_of y → map id_of (xs ++ x ∷ []) ≡ map id_of (ys ++ y ∷ [])
ids_push id_of xs ys x y same here =
    map-append id_of xs (x ∷ []) ∙ ap (λ (l : List ℕ). l ++ id_of x ∷ []) same ∙ ap (λ (n : ℕ). map id_of ys ++ n ∷ []) here ∙ sym (map-append id_of ys (y ∷ []))

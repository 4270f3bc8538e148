-- What each of some choices has, made of what its parts have.
use Rattle.std.proofs.Common.{◌≡◌, ℕ, suc, zero, ◌+◌, ◌<◌, ◌≤◌, Bool, true, false, List, [], ◌∷◌, map, arith, refl}
use Rattle.std.specs.Prelude.{◌&&◌}
use Rattle.std.specs.List.{list_all, range_with_len, AllByRecursion}
use Rattle.std.proofs.lemmas.Bool.{and_parts}
use Rattle.tt_choice.specs.Pieces.{each_before}
use Rattle.tt_choice.proofs.Order.{all-append}

pub all_of : {X : Type 0} (P : X → Type 0) → ((x : X) → P x) → (xs : List X) → AllByRecursion P xs
all_of P f [] = tt
all_of P f (x ∷ xs) = (f x, all_of P f xs)

pub all_both : {X : Type 0} (P Q R : X → Type 0) → ((x : X) → P x → Q x → R x) → (xs : List X) → AllByRecursion P xs → AllByRecursion Q xs → AllByRecursion R xs
all_both P Q R f [] h k = tt
all_both P Q R f (x ∷ xs) h k = (f x h.0 k.0, all_both P Q R f xs h.1 k.1)

-- a class before each of the choices
pub before-map : (P Q : List ℕ → Type 0) (c : ℕ) → ((choice : List ℕ) → Q choice → P (c ∷ choice)) → (choices : List (List ℕ)) → AllByRecursion Q choices
    → AllByRecursion P (map (λ choice. c ∷ choice) choices)
before-map P Q c f [] h = tt
before-map P Q c f (x ∷ xs) h = (f x h.0, before-map P Q c f xs h.1)

-- each of the classes from n on before each of the choices
pub before-each : (P : List ℕ → Type 0) (Q : ℕ → List ℕ → Type 0) (choices : List (List ℕ)) (n k : ℕ)
    → ((c : ℕ) → n ≤ c → c < n + k → (choice : List ℕ) → Q c choice → P (c ∷ choice)) → ((c : ℕ) → n ≤ c → c < n + k → AllByRecursion (Q c) choices)
    → AllByRecursion P (each_before (range_with_len n k) choices)
before-each P Q choices n zero f h = tt
before-each P Q choices n (suc k) f h =
    all-append P (map (λ choice. n ∷ choice) choices) (each_before (range_with_len (n + 1) k) choices)
    (before-map P (Q n) n (f n (omega arith) (omega arith)) choices (h n (omega arith) (omega arith)))
    (before-each P Q choices (n + 1) k (λ c le lt. f c (omega arith) (omega arith)) (λ c le lt. h c (omega arith) (omega arith)))

pub no-and : (a b : Bool) → a ≡ false → (a && b) ≡ false
no-and true b h = absurd (cc h)
no-and false b h = refl

pub and-no : (a b : Bool) → b ≡ false → (a && b) ≡ false
and-no true b h = h
and-no false b h = refl

-- a test that follows from another one fails where that one must
pub fails : (a b : Bool) → (a ≡ true → b ≡ true) → b ≡ false → a ≡ false
fails true b f failed = absurd (apart b (f refl) failed)
  where
    apart : (b : Bool) → b ≡ true → b ≡ false → ⊥
    apart true e h = absurd (cc h)
    apart false e h = absurd (cc e)
fails false b f failed = refl

pub all_follow : (p q : ℕ → Bool) → ((c : ℕ) → p c ≡ true → q c ≡ true) → (xs : List ℕ) → list_all p xs ≡ true → list_all q xs ≡ true
all_follow p q f [] h = refl
all_follow p q f (x ∷ xs) h = let parts = and_parts (p x) (list_all p xs) h in rw (f x parts.0, all_follow p q f xs parts.1) refl

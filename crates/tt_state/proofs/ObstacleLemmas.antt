-- What holds where nothing stands in the way of a value.
use Rattle.std.proofs.Common.{◌≡◌, ℕ, Bool, true, false, List, [], ◌∷◌, Option, Some, None, zero, suc, refl, sym, arith, inl, inr, ◌∙◌, ap}
use Rattle.std.specs.Prelude.{All}
use Rattle.std.specs.List.{find}
use Rattle.std.specs.Option.{is_none, option_map}
use Rattle.std.proofs.lemmas.Bool.{cases_Bool, cases_eq, ne_eqb}
use Rattle.tt_base.specs.Lists.{is_listed}
use Rattle.tt_bits.specs.declared.times.Value.{Value}
use Rattle.tt_problem.specs.declared.parts.Parts.{Parts}
use Rattle.tt_clash.specs.declared.Block.{Block}
use Rattle.tt_state.specs.declared.obstacle.Obstacle.TheVariants.{Blocked, Held}
use Rattle.tt_state.specs.Snapshots.{Snapshot, is_locked_in}
use Rattle.tt_state.specs.Values.{blocked_of, conflict_set_of, holder_of, obstacle_by, obstacle_of}

-- none of the list passes where none is found
pub none_passes : (test : ℕ → Bool) (xs : List ℕ) → find test xs ≡ None → All (λ x. test x ≡ false) xs
none_passes test [] none k d lt = absurd (omega (arith, lt))
none_passes test (x ∷ xs) none zero d lt = elim (cases_Bool (test x)) [
  | inl passes ↦ absurd (let some : Some x ≡ None = rw passes at none in cc some)
  | inr fails ↦ fails
]
none_passes test (x ∷ xs) none (suc k) d lt = elim (cases_Bool (test x)) [
  | inl passes ↦ absurd (let some : Some x ≡ None = rw passes at none in cc some)
  | inr fails ↦ none_passes test xs (rw fails at none) k d (omega (arith, lt))
]

-- so one that passes isn't listed
pub not_listed : (test : ℕ → Bool) (xs : List ℕ) (y : ℕ) → find test xs ≡ None → test y ≡ true → is_listed y xs ≡ false
not_listed test [] y none passes = refl
not_listed test (x ∷ xs) y none passes = elim (cases_Bool (test x)) [
  | inl found ↦ absurd (let some : Some x ≡ None = rw found at none in cc some)
  | inr fails ↦ elim (cases_eq y x) [
    | inl same ↦ absurd (let no : true ≡ false = sym passes ∙ ap test same ∙ fails in cc no)
    | inr apart ↦ rw (ne_eqb y x apart) (not_listed test xs y (rw fails at none) passes)
  ]
]

-- where nothing stands in the way of a value, it isn't blocked and isn't held
pub record IsClear (p : Parts) (s : Snapshot) (class : ℕ) (v : Value) : Type 0 where
  pub open_one : blocked_of p s.closures class v ≡ None
  pub free : holder_of p s class v ≡ None

pub clear_by : (p : Parts) (s : Snapshot) (class : ℕ) (v : Value) → obstacle_of p s class v ≡ None → IsClear p s class v
unfolding obstacle_of
clear_by p s class v none = by_block (blocked_of p s.closures class v) none refl
  where
    not_held : (o : Option ℕ) → option_map (λ other. Held other) o ≡ None → o ≡ None
    not_held None none = refl
    not_held (Some other) none = absurd (cc none)

    by_block : (b : Option Block) → obstacle_by p s class v b ≡ None → blocked_of p s.closures class v ≡ b → IsClear p s class v
    by_block None none is = record { open_one = is; free = not_held (holder_of p s class v) none }
    by_block (Some block) none is = absurd (cc none)

pub not_blocked : (p : Parts) (s : Snapshot) (class : ℕ) (v : Value) → obstacle_of p s class v ≡ None → blocked_of p s.closures class v ≡ None
not_blocked p s class v none = (clear_by p s class v none).open_one

pub none_held : (p : Parts) (s : Snapshot) (class : ℕ) (v : Value) → obstacle_of p s class v ≡ None → All (λ other. is_locked_in s other ≡ false) (conflict_set_of p s class v)
unfolding holder_of
none_held p s class v none = none_passes (is_locked_in s) (conflict_set_of p s class v) (clear_by p s class v none).free

-- a class that is locked is none of the conflict set then
pub locked_not_listed : (p : Parts) (s : Snapshot) (class d : ℕ) (v : Value) → obstacle_of p s class v ≡ None → is_locked_in s d ≡ true → is_listed d (conflict_set_of p s class v) ≡ false
unfolding holder_of
locked_not_listed p s class d v none locked = not_listed (is_locked_in s) (conflict_set_of p s class v) d (clear_by p s class v none).free locked

-- a block stands in the way of a value that is blocked
pub obstacle_blocked : (p : Parts) (s : Snapshot) (class : ℕ) (v : Value) (block : Block) → blocked_of p s.closures class v ≡ Some block → obstacle_of p s class v ≡ Some (Blocked block)
unfolding obstacle_of
obstacle_blocked p s class v block is = ap (obstacle_by p s class v) is

-- what stands in the way of a value that isn't blocked is the class that holds it
pub obstacle_open : (p : Parts) (s : Snapshot) (class : ℕ) (v : Value) → blocked_of p s.closures class v ≡ None → obstacle_of p s class v ≡ option_map (λ other. Held other) (find (is_locked_in s) (conflict_set_of p s class v))
unfolding obstacle_of holder_of
obstacle_open p s class v is = ap (obstacle_by p s class v) is

-- so nothing stands in its way exactly where no class of the conflict set is locked
pub clear_exactly : (p : Parts) (s : Snapshot) (class : ℕ) (v : Value) (taken : List ℕ) (locked : Option ℕ) → blocked_of p s.closures class v ≡ None → taken ≡ conflict_set_of p s class v → locked ≡ find (is_locked_in s) taken
    → is_none (obstacle_of p s class v) ≡ is_none locked
clear_exactly p s class v taken locked open_one found is =
    ap is_none (obstacle_open p s class v open_one) ∙ none_of (find (is_locked_in s) (conflict_set_of p s class v)) ∙ ap is_none (sym (is ∙ ap (find (is_locked_in s)) found))
  where
    none_of : (o : Option ℕ) → is_none (option_map (λ other. Held other) o) ≡ is_none o
    none_of None = refl
    none_of (Some other) = refl

-- and something stands in the way of a value that is blocked
pub blocked_not_clear : (p : Parts) (s : Snapshot) (class : ℕ) (v : Value) → is_none (blocked_of p s.closures class v) ≡ false → is_none (obstacle_of p s class v) ≡ false
unfolding obstacle_of
blocked_not_clear p s class v blocked = by (blocked_of p s.closures class v) blocked
  where
    by : (o : Option Block) → is_none o ≡ false → is_none (obstacle_by p s class v o) ≡ false
    by None blocked = absurd (cc)
    by (Some block) blocked = refl

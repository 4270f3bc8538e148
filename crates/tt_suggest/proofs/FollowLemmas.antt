-- Whether a placement may follow, by how many classes it may push out.
use Rattle.std.proofs.Common.{◌≡◌, ◌∙◌, ℕ, ◌+◌, ◌<◌, Bool, true, false, not, ◌&&◌, List, Option, Some, None, length, refl, ap, sym, arith, inl, inr}
use Rattle.std.specs.Prelude.{is_some, nat_le}
use Rattle.std.specs.List.{find, list_any}
use Rattle.std.specs.Option.{is_none}
use Rattle.std.proofs.lemmas.Bool.{le-leb, lt-leb}
use Rattle.std.proofs.lemmas.Bool.Decides.{leb_tells}
use Rattle.tt_bits.specs.declared.times.Value.{Value}
use Rattle.tt_problem.specs.declared.parts.Parts.{Parts}
use Rattle.tt_clash.specs.declared.Block.{Block}
use Rattle.tt_state.specs.Snapshots.{is_locked_in}
use Rattle.tt_state.specs.Values.{blocked_of, conflict_set_of, obstacle_of}
use Rattle.tt_state.proofs.ObstacleLemmas.{clear_exactly}
use Rattle.tt_suggest.specs.declared.suggestion.Move.{Move}
use Rattle.tt_suggest.specs.Tree.{Node, gives_child}
use Rattle.tt_suggest.specs.Walks.{is_on, may_follow, stays_at_root}

-- too many wait already
pub follows_none : (spare : ℕ) (path : List Move) (others conflicts : List ℕ) → spare < length others → may_follow spare path others conflicts ≡ false
follows_none spare path others conflicts more =
    let many : nat_le (length others + length conflicts) spare ≡ false = lt-leb (length others + length conflicts) spare (omega (arith, more)) in
    rw many refl

-- with those that may be pushed out as many wait as may
pub follows_within : (spare most : ℕ) (path : List Move) (others conflicts : List ℕ) → most + length others ≡ spare
    → may_follow spare path others conflicts ≡ (nat_le (length conflicts) most && not (list_any (is_on path) conflicts))
follows_within spare most path others conflicts is =
    elim (leb_tells (length conflicts) most) [
      | inl few ↦
          let both : nat_le (length others + length conflicts) spare ≡ true = le-leb (length others + length conflicts) spare (omega (arith, few.1, is)) in
          rw (both, few.0) refl
      | inr many ↦
          let both : nat_le (length others + length conflicts) spare ≡ false = lt-leb (length others + length conflicts) spare (omega (arith, many.1, is)) in
          rw (both, many.0) refl
    ]

last_fail : (a b c d : Bool) → (c && d) ≡ false → (a && b && c && d) ≡ false
last_fail true true c d fail = fail
last_fail true false c d fail = refl
last_fail false b c d fail = refl

last_hold : (a b c d : Bool) → b ≡ true → (c && d) ≡ true → a ≡ (a && b && c && d)
last_hold true true c d second hold = sym hold
last_hold true false c d second hold = absurd (cc)
last_hold false b c d second hold = refl

-- where no placement may follow there is no child
pub barren : (p : Parts) (spare : ℕ) (node : Node) (class : ℕ) (others : List ℕ) (v : Value) → may_follow spare node.path others (conflict_set_of p node.snapshot class v) ≡ false
    → false ≡ gives_child p spare node class others v
unfolding gives_child
barren p spare node class others v none =
    let conflicts = conflict_set_of p node.snapshot class v in
    sym
    (last_fail
    (is_none (obstacle_of p node.snapshot class v))
    (not (stays_at_root node.snapshot node.path class v))
    (nat_le (length others + length conflicts) spare)
    (not (list_any (is_on node.path) conflicts))
    none)

-- and else there is one unless a class that would be pushed out is locked
pub gives_unless_held : (p : Parts) (spare : ℕ) (node : Node) (class : ℕ) (others : List ℕ) (v : Value) (taken : List ℕ) (locked : Option ℕ) → blocked_of p node.snapshot.closures class v ≡ None
    → stays_at_root node.snapshot node.path class v ≡ false → may_follow spare node.path others (conflict_set_of p node.snapshot class v) ≡ true
    → taken ≡ conflict_set_of p node.snapshot class v → locked ≡ find (is_locked_in node.snapshot) taken → is_none locked ≡ gives_child p spare node class others v
unfolding gives_child
gives_unless_held p spare node class others v taken locked open_one moves follows found is =
    let conflicts = conflict_set_of p node.snapshot class v in
    sym (clear_exactly p node.snapshot class v taken locked open_one found is)
    ∙ last_hold
    (is_none (obstacle_of p node.snapshot class v))
    (not (stays_at_root node.snapshot node.path class v))
    (nat_le (length others + length conflicts) spare)
    (not (list_any (is_on node.path) conflicts))
    (ap not moves)
    follows

-- none is locked where it isn't so that some is
none_by : (locked : Option ℕ) (answer : Bool) → is_some locked ≡ not answer → answer ≡ is_none locked
none_by None true is = refl
none_by None false is = absurd (cc is)
none_by (Some other) true is = absurd (cc is)
none_by (Some other) false is = refl

-- the same, by what was asked
pub gives_asked : (p : Parts) (spare : ℕ) (node : Node) (class : ℕ) (others : List ℕ) (v : Value) (reason : Option Block) (taken : List ℕ) (locked : Option ℕ) (answer : Bool)
    → reason ≡ blocked_of p node.snapshot.closures class v → is_some reason ≡ false → stays_at_root node.snapshot node.path class v ≡ false
    → may_follow spare node.path others (conflict_set_of p node.snapshot class v) ≡ true → taken ≡ conflict_set_of p node.snapshot class v → locked ≡ find (is_locked_in node.snapshot) taken
    → is_some locked ≡ not answer → answer ≡ gives_child p spare node class others v
gives_asked p spare node class others v None taken locked answer is open_one moves follows found first told =
    none_by locked answer told ∙ gives_unless_held p spare node class others v taken locked (sym is) moves follows found first
gives_asked p spare node class others v (Some block) taken locked answer is open_one moves follows found first told = absurd (cc open_one)

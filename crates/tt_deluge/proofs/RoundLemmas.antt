-- What a round on a class leaves, by what it found.
use Rattle.std.proofs.Common.{◌≡◌, ℕ, ◌+◌, ◌<◌, ◌≤◌, Bool, true, false, List, [], ◌∷◌, Option, Some, None, length, Result, Ok, Err, refl, sym, ap, ◌∙◌, arith, subst}
use Rattle.std.specs.Prelude.{◌&&◌, ◌||◌, not, is_none, is_some, nat_le, if◌then◌else◌, option_and_then, slice_get, IfOk, OnOk}
use Rattle.std.proofs.lemmas.Bool.{le-ltb, leb-false, lt-ltb}
use Rattle.tt_bits.specs.declared.times.Value.{Value}
use Rattle.tt_problem.specs.declared.parts.Parts.{Parts}
use Rattle.tt_plan.specs.Domain.{domain_of}
use Rattle.tt_state.specs.History.{Contents, trail, with_taken}
use Rattle.tt_state.specs.Snapshots.{Snapshot, is_locked_in, with_value}
use Rattle.tt_state.specs.Values.{blocked_of, conflict_set_of, total_with}
use Rattle.tt_score.specs.Below.{below}
use Rattle.tt_improve.specs.Classes.{is_free, total_of}
use Rattle.tt_deluge.specs.ClassRounds.{moved_by_conflict_set, class_change, exchange_value, exchanged, has_value, moved_to_value}
use Rattle.tt_deluge.specs.Standing.{BeginsWith, IsClassRound, StandsAs}
use Rattle.tt_deluge.specs.Pieces.{half_exchanged, moved_to_next, made_within}
use Rattle.tt_deluge.proofs.ChangeLemmas.{stands-same}
use Rattle.tt_deluge.proofs.FrontLemmas.{front-same}
use Rattle.tt_deluge.proofs.LevelLemmas.{below-level}

-- two states with the same problem, snapshot and entries
pub held-same : (a b : Contents) → a.problem ≡ b.problem → a.present ≡ b.present → a.entries ≡ b.entries → with_taken a [] ≡ with_taken b []
held-same a b problem present entries = rw (problem, present, entries) refl

pub trail-same : (a b : Contents) → a.present ≡ b.present → a.entries ≡ b.entries → trail a ≡ trail b
trail-same a b present entries = rw (present, entries) refl

-- the total with the change is at most the level, or it isn't
pub change-made : (p : Parts) (level : ℕ) (next : Snapshot) → nat_le (total_of p next) level ≡ true → made_within p level (Some next) ≡ Some next
change-made p level next is = ap (λ (b : Bool). if b then Some next else None) is

pub change-left : (p : Parts) (level : ℕ) (next : Snapshot) → nat_le (total_of p next) level ≡ false → made_within p level (Some next) ≡ None
change-left p level next is = ap (λ (b : Bool). if b then Some next else None) is

-- nothing is done
pub round-left : (level : ℕ) (found : Option Snapshot) (old new : Contents) → made_within old.problem level found ≡ None → new.present ≡ old.present → trail new ≡ trail old → IsClassRound level found old new false
round-left level found old new change present same = record {
  round = record {
    change = change;
    same = λ e. present;
    front = subst (BeginsWith (trail old)) (sym same) (front-same (trail old));
    stands = subst (StandsAs old.problem old.present) (sym present) (stands-same old.problem old.present);
  };
  still = λ e. same;
}

-- the change is made
pub round-made : (level : ℕ) (next : Snapshot) (old new : Contents) → nat_le (total_of old.problem next) level ≡ true → new.present ≡ next → BeginsWith (trail old) (trail new) → StandsAs old.problem old.present next → IsClassRound level (Some next) old new true
round-made level next old new low present front stands = record {
  round = record {
    change = change-made old.problem level next low ∙ ap Some (sym present);
    same = λ e. absurd (cc e);
    front = front;
    stands = subst (StandsAs old.problem old.present) (sym present) stands;
  };
  still = λ e. absurd (cc e);
}

-- a value whose total was tried
not_it : (b : Bool) → true ≡ not b → b ≡ false
not_it true e = absurd (cc e)
not_it false e = refl

not_not : (b : Bool) → false ≡ not b → b ≡ true
not_not true e = refl
not_not false e = absurd (cc e)

pub tried-high : (p : Parts) (s : Snapshot) (class : ℕ) (v : Value) (level : ℕ) (o : Option ℕ) → o ≡ below (level + 1) (total_with p s class v) → is_none o ≡ true → nat_le (total_of p (with_value s class (Some v))) level ≡ false
unfolding total_with
tried-high p s class v level o is none = not_it (nat_le (total_of p (with_value s class (Some v))) level) (sym none ∙ below-level (total_of p (with_value s class (Some v))) level o is)

pub tried-low : (p : Parts) (s : Snapshot) (class : ℕ) (v : Value) (level : ℕ) (o : Option ℕ) → o ≡ below (level + 1) (total_with p s class v) → is_none o ≡ false → nat_le (total_of p (with_value s class (Some v))) level ≡ true
unfolding total_with
tried-low p s class v level o is some = not_not (nat_le (total_of p (with_value s class (Some v))) level) (sym some ∙ below-level (total_of p (with_value s class (Some v))) level o is)

-- an exchange with a class that isn't locked
pub exchange-found : (p : Parts) (s : Snapshot) (class : ℕ) (v : Value) (other : ℕ) (to : Value) (b : Bool) → is_locked_in s other ≡ false → exchange_value p s class other ≡ Some to → has_value s other to ≡ false
    → b ≡ (is_free p (with_value s other None) class v && is_free p (half_exchanged s class v other) other to)
    → moved_by_conflict_set p s class v (other ∷ []) ≡ (if b then Some (with_value (half_exchanged s class v other) other (Some to)) else None)
exchange-found p s class v other to b open_one is apart free =
    let end : Option Snapshot = Some (with_value (half_exchanged s class v other) other (Some to)) in
    let one : Bool = is_free p (with_value s other None) class v in
    let two : Bool = is_free p (half_exchanged s class v other) other to in
    ap (λ (l : Bool). if l then None else option_and_then (exchanged p s class v other) (exchange_value p s class other)) open_one
    ∙ ap (option_and_then (exchanged p s class v other)) is
    ∙ ap (λ (h : Bool). if not h && one && two then end else None) apart
    ∙ ap (λ (c : Bool). if c then end else None) (sym free)

pub none-tried : (o : Option ℕ) → is_some o ≡ false → is_none o ≡ true
none-tried None e = refl
none-tried (Some n) e = absurd (cc e)

pub some-tried : (o : Option ℕ) → is_some o ≡ true → is_none o ≡ false
some-tried None e = absurd (cc e)
some-tried (Some n) e = refl

-- a value that the class has, or that is blocked, and one that is neither
pub moved-none : (p : Parts) (s : Snapshot) (class : ℕ) (v : Value) → (has_value s class v || is_some (blocked_of p s.closures class v)) ≡ true → moved_to_value p s class v ≡ None
unfolding moved_to_value
moved-none p s class v is = ap (λ (b : Bool). if b then None else moved_by_conflict_set p s class v (conflict_set_of p s class v)) is

pub moved-among : (p : Parts) (s : Snapshot) (class : ℕ) (v : Value) (conflicts : List ℕ) → (has_value s class v || is_some (blocked_of p s.closures class v)) ≡ false → conflict_set_of p s class v ≡ conflicts → moved_to_value p s class v ≡ moved_by_conflict_set p s class v conflicts
unfolding moved_to_value
moved-among p s class v conflicts is same = ap (λ (b : Bool). if b then None else moved_by_conflict_set p s class v (conflict_set_of p s class v)) is ∙ ap (moved_by_conflict_set p s class v) same

pub among-many : (p : Parts) (s : Snapshot) (class : ℕ) (v : Value) (conflicts : List ℕ) → nat_le (length conflicts) 1 ≡ false → moved_by_conflict_set p s class v conflicts ≡ None
among-many p s class v [] many = absurd (omega (arith, leb-false 0 1 many))
among-many p s class v (one ∷ []) many = absurd (omega (arith, leb-false (length (one ∷ [])) 1 many))
among-many p s class v (one ∷ more ∷ others) many = refl

-- the change by its kind
pub change-next : (p : Parts) (s : Snapshot) (kind class place : ℕ) → kind < 2 → class_change p s kind class place ≡ moved_to_next p s class place
unfolding class_change
change-next p s kind class place low = ap (λ (b : Bool). if b then moved_to_next p s class place else option_and_then (moved_to_value p s class) (slice_get (domain_of p class) place)) (lt-ltb kind 2 low)

pub change-value : (p : Parts) (s : Snapshot) (kind class place : ℕ) (v : Value) → 2 ≤ kind → slice_get (domain_of p class) place ≡ Some v → class_change p s kind class place ≡ moved_to_value p s class v
unfolding class_change
change-value p s kind class place v high is =
    ap (λ (b : Bool). if b then moved_to_next p s class place else option_and_then (moved_to_value p s class) (slice_get (domain_of p class) place)) (le-ltb kind 2 high) ∙ ap (option_and_then (moved_to_value p s class)) is

-- what several clauses say of an answer, together
pub if_ok_join : {T E : Type 0} (r : Result T E) (A B Q : T → Type 0) (C D : Type 0) → ((x : T) → A x → B x → C → D → Q x) → IfOk r A → IfOk r B → OnOk r C → OnOk r D → IfOk r Q
if_ok_join (Ok x) A B Q C D f a b c d = f x a b c d
if_ok_join (Err e) A B Q C D f a b c d = tt

pub on_ok_any : {T E P : Type 0} (r : Result T E) → P → OnOk r P
on_ok_any (Ok x) p = p
on_ok_any (Err e) p = tt

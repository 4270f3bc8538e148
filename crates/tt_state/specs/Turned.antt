-- Proof. A lock that turns: it is put on a class, or taken off.
use Rattle.std.specs.Prelude.{ℕ, Bool, true, false, List}
use Rattle.std.specs.List.{filter}
use Rattle.tt_journal.specs.declared.Entry.{Entry}
use Rattle.tt_journal.specs.declared.Entry.TheVariants.{Locked, Unlocked}
use Rattle.tt_state.specs.Snapshots.{Snapshot, all_locked, classes_in, is_locked_in, may_lock, none_locked}

-- the class may get a lock, or has one
abbrev pub may_turn : (lock : Bool) → Snapshot → (class : ℕ) → Bool
may_turn true s class = may_lock s class
may_turn false s class = is_locked_in s class

-- the entry of a class that got a lock, or lost it
abbrev pub lock_entry : (lock : Bool) → (class : ℕ) → Entry
lock_entry true class = Locked class
lock_entry false class = Unlocked class

-- the classes that may get a lock, or have one: those of `lockable`, or of `locked_classes`
abbrev pub turning : (lock : Bool) → Snapshot → List ℕ
turning lock s = filter (may_turn lock s) (classes_in s)

-- a snapshot with each placed class locked, or with no class locked
abbrev pub all_turned : (lock : Bool) → Snapshot → Snapshot
all_turned true s = all_locked s
all_turned false s = none_locked s

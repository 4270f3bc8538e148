-- Contract. What a new group of a rule is.
use Rattle.std.specs.Prelude.{◌≡◌, ℕ, ℤ, List, Option, None, replicate}
use Rattle.tt_bits.specs.declared.times.Spot.{Spot}
use Rattle.tt_travel.specs.Table.{Table}
use Rattle.tt_measure.specs.declared.Measure.{Ghosts as Meanings}

-- what a new group of a rule should have
pub record NewGroup : Type 0 where
  -- how many members
  pub members : ℕ
  -- how many weeks, that are counted
  pub weeks : ℕ
  -- the kind of the rule, its parameters, the number of members and the weeks, as numbers
  pub shape : List ℕ
  -- its amount, by the travel and what the members have
  pub sum : Table → List (Option Spot) → ℕ
  -- by how much the amount rises when the member without a spot at a place gets one
  pub delta : Table → List (Option Spot) → ℕ → Spot → ℤ
  -- the greatest amount that so many members can have
  pub most : ℕ → ℕ

-- the group is what a new one should be, by what the words of `Measure` mean for groups of its type
pub record IsNewGroup {G : Type 0} (meanings : Meanings G) (asked : NewGroup) (g : G) : Type 0 where
  -- so many members as asked for have no spot
  pub held : meanings.held g ≡ replicate asked.members None
  -- it counts the weeks asked for
  pub weeks : meanings.weeks g ≡ asked.weeks
  -- it has the shape asked for
  pub shape : meanings.shape g ≡ asked.shape
  -- its amount is the one asked for, whatever the members have
  pub sum : (t : Table) (h : List (Option Spot)) → meanings.sum (meanings.shape g) t h ≡ asked.sum t h
  -- a spot raises the amount by as much as asked for
  pub delta : (t : Table) (h : List (Option Spot)) (p : ℕ) (x : Spot) → meanings.delta (meanings.shape g) t h p x ≡ asked.delta t h p x
  -- its greatest amount is the one asked for
  pub most : (n : ℕ) → meanings.most (meanings.shape g) n ≡ asked.most n
  -- it fits each table
  pub fits : (t : Table) → meanings.fits g t

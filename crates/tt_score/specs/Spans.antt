-- Proof. Where the joint rows stand that are kept.
use Rattle.std.specs.Prelude.{◌≡◌, ℕ, ◌≤◌, All, IfSome, List, Option, None, Some, length, map, slice_index_or, slice_range, vec_capacity}
use Rattle.std.specs.Option.{option_map}
use Rattle.tt_score.specs.declared.rows.JointClass.{JointClass}
use Rattle.tt_score.specs.declared.rows.Span.{Span}
use Rattle.tt_score.specs.declared.rows.JointRows.TheInside.{Inside}

-- the span of a class, where its row is kept
abbrev pub span_at : List (Option Span) → (class : ℕ) → Option Span
span_at spans class = slice_index_or spans class None

-- the pairs of a span
abbrev pub pairs_in : List JointClass → Span → List JointClass
pairs_in pairs span = slice_range pairs span.start span.end

-- the row of each class, where it is kept
abbrev pub rows_of : List JointClass → List (Option Span) → List (Option (List JointClass))
rows_of pairs spans = map (option_map (pairs_in pairs)) spans

abbrev pub rows_in : Inside → List (Option (List JointClass))
rows_in kept = rows_of kept.pairs.items kept.spans.items

-- the span lies within so many pairs
pub record IsSpan (pairs : ℕ) (span : Span) : Type 0 where
  pub order : span.start ≤ span.end
  pub within : span.end ≤ pairs

-- the class had that span before, and its pairs are the same
pub record StandsBeside (spans : List (Option Span)) (pairs pairs' : List JointClass) (class : ℕ) (span : Span) : Type 0 where
  pub before : span_at spans class ≡ Some span
  pub same : pairs' ≡ pairs

-- each class that has a span has had it before, with the same pairs
abbrev pub StandStill : (spans : List (Option Span)) → (pairs : List JointClass) → (spans' : List (Option Span)) → (pairs' : List JointClass) → Type 0
StandStill spans pairs spans' pairs' = (class : ℕ) → IfSome (span_at spans' class) (StandsBeside spans pairs pairs' class)

-- the spans lie within the pairs, there is room for a row of all classes, and nothing is counted
pub record HasRows (kept : Inside) : Type 0 where
  pub spans : (class : ℕ) → IfSome (span_at kept.spans.items class) (IsSpan (length kept.pairs.items))
  pub few : length kept.pairs.items ≤ kept.room
  pub memory : kept.room ≤ vec_capacity kept.pairs
  pub whole : length kept.spans.items ≤ kept.room
  pub numbers : length kept.numbers.items ≡ length kept.spans.items
  pub touched : length kept.touched.items ≡ length kept.spans.items
  pub clear : All (λ n. n ≡ 0) kept.numbers.items

-- The amounts of the rules that count in cells, by what the placed members have.
use Rattle.std.proofs.Common.{◌≡◌, ◌∙◌, ℕ, ◌-◌, Bool, List, Option, map, refl, ap, count_by}
use Rattle.std.specs.Prelude.{filter}
use Rattle.std.specs.List.{list_any, range_with_len}
use Rattle.tt_base.specs.Sets.{has, places}
use Rattle.tt_bits.specs.declared.times.Spot.{Spot}
use Rattle.tt_bits.specs.Sets.{day_set, week_set}
use Rattle.tt_bits.specs.Spots.{placed, spot_at}
use Rattle.tt_measure.specs.Blocks.{breaks_in, long_in}
use Rattle.tt_measure.specs.Cells.{over_cells, seven_days, stands_in}
use Rattle.tt_problem.specs.declared.parts.DistKind.TheVariants.{MaxDays, MaxWeeks, MaxBreaks, MaxBlock}
use Rattle.tt_problem.specs.declared.parts.Parts.{Parts}
use Rattle.tt_problem.specs.declared.parts.Rule.{Rule}
use Rattle.tt_score.specs.Amounts.{rule_amount}

-- a count up to 128 is one over all places
pub counted_places : (test : ℕ → Bool) (n : ℕ) → n ≡ 128 → count_by test (range_with_len 0 n) ≡ count_by test places
unfolding places
counted_places test n is = ap (λ k. count_by test (range_with_len 0 k)) is

module _ (p : Parts) (spots : List (Option Spot)) (r : Rule) where
  days_amount : (most : ℕ) → r.kind ≡ MaxDays most
      → count_by (λ day. list_any (λ x. has (day_set x.time.days) day) (placed (map (spot_at spots) r.members))) seven_days - most ≡ rule_amount p spots r
  unfolding rule_amount
  days_amount most is = rw is refl

  pub days_is : (most n : ℕ) (xs : List Spot) → r.kind ≡ MaxDays most → xs ≡ placed (map (spot_at spots) r.members)
      → n ≡ count_by (λ day. list_any (λ x. has (day_set x.time.days) day) xs) seven_days - most → n ≡ rule_amount p spots r
  days_is most n xs is listed count =
      count ∙ ap (λ l. count_by (λ day. list_any (λ x. has (day_set x.time.days) day) l) seven_days - most) listed ∙ days_amount most is

  weeks_amount : (most : ℕ) → r.kind ≡ MaxWeeks most
      → count_by (λ week. list_any (λ x. has (week_set x.time.weeks) week) (placed (map (spot_at spots) r.members))) places - most ≡ rule_amount p spots r
  unfolding rule_amount
  weeks_amount most is = rw is refl

  pub weeks_is : (most n : ℕ) (xs : List Spot) → r.kind ≡ MaxWeeks most → xs ≡ placed (map (spot_at spots) r.members)
      → n ≡ count_by (λ week. list_any (λ x. has (week_set x.time.weeks) week) xs) places - most → n ≡ rule_amount p spots r
  weeks_is most n xs is listed count =
      count ∙ ap (λ l. count_by (λ week. list_any (λ x. has (week_set x.time.weeks) week) l) places - most) listed ∙ weeks_amount most is

  breaks_amount : (breaks gap : ℕ) → r.kind ≡ MaxBreaks breaks gap
      → over_cells p.nr_weeks (λ week day. breaks_in breaks gap (filter (stands_in week day) (placed (map (spot_at spots) r.members)))) ≡ rule_amount p spots r
  unfolding rule_amount
  breaks_amount breaks gap is = rw is refl

  pub breaks_is : (breaks gap n weeks : ℕ) (xs : List Spot) → r.kind ≡ MaxBreaks breaks gap → xs ≡ placed (map (spot_at spots) r.members) → weeks ≡ p.nr_weeks
      → n ≡ over_cells weeks (λ week day. breaks_in breaks gap (filter (stands_in week day) xs)) → n ≡ rule_amount p spots r
  breaks_is breaks gap n weeks xs is listed whole count =
      count
      ∙ ap (λ (k : ℕ). over_cells k (λ week day. breaks_in breaks gap (filter (stands_in week day) xs))) whole
      ∙ ap (λ (l : List Spot). over_cells p.nr_weeks (λ week day. breaks_in breaks gap (filter (stands_in week day) l))) listed
      ∙ breaks_amount breaks gap is

  long_amount : (most gap : ℕ) → r.kind ≡ MaxBlock most gap
      → over_cells p.nr_weeks (λ week day. long_in most gap (filter (stands_in week day) (placed (map (spot_at spots) r.members)))) ≡ rule_amount p spots r
  unfolding rule_amount
  long_amount most gap is = rw is refl

  pub long_is : (most gap n weeks : ℕ) (xs : List Spot) → r.kind ≡ MaxBlock most gap → xs ≡ placed (map (spot_at spots) r.members) → weeks ≡ p.nr_weeks
      → n ≡ over_cells weeks (λ week day. long_in most gap (filter (stands_in week day) xs)) → n ≡ rule_amount p spots r
  long_is most gap n weeks xs is listed whole count =
      count
      ∙ ap (λ (k : ℕ). over_cells k (λ week day. long_in most gap (filter (stands_in week day) xs))) whole
      ∙ ap (λ (l : List Spot). over_cells p.nr_weeks (λ week day. long_in most gap (filter (stands_in week day) l))) listed
      ∙ long_amount most gap is

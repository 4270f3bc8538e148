use Rattle.std.proofs.Common.{◌≡◌, ℕ, ◌+◌, ◌<◌, ◌≤◌, None, Some, length, get_or, sum, take, arith, ap, sym, ◌∙◌, inl, inr, ◌⊎◌}
use Rattle.std.specs.Prelude.{slice_get, slice_set}
use Rattle.std.proofs.lemmas.Bool.{cases_eq, cases_lt}
use Rattle.std.proofs.lemmas.List.{get_or_default, length-set, take_more_set}
use Rattle.std.proofs.lemmas.List.Sums.{sum_by_push}
use Rattle.std.proofs.lemmas.Option.{slice_get_past}
use Rattle.tt_least.proofs.BoundLemmas.{IsCostAt, IsLeastAt, costs-more, least-more, span-there}
use Rattle.tt_least.proofs.bound.write_costs.Goals as goal
use Rattle.tt_least.proofs.bound.write_costs.Goals.{in-Some, in-None}

pub write_span-least-requires-clause-first : goal.write_span-least-requires-clause-first
write_span-least-requires-clause-first c =
    (span-there c.args.table.now c.requires.table c.loop-part.part c.loop-part-test.true).1

pub write_span-least-requires-clause-after : goal.write_span-least-requires-clause-after
write_span-least-requires-clause-after c =
    (span-there c.args.table.now c.requires.table c.loop-part.part c.loop-part-test.true).2

pub write_span-least-requires-clause-come : goal.write_span-least-requires-clause-come
write_span-least-requires-clause-come c = λ d.
    let part = c.loop-part.part in
    let chosen = c.args.level.now.chosen.items in
    let within : part < length chosen = omega (arith, c.loop-part-test.true, c.requires.table.few, c.requires.level.chosen) in
    let none : get_or chosen part None ≡ None = sym (c.index.ensures ∙ get_or_default chosen part c.index.result.now None within) ∙ c.in-None.is in
    let there = (span-there c.args.table.now c.requires.table part c.loop-part-test.true).0 in
    rw there at (c.requires.node.to_come part d none)

pub loop-part-preserved : goal.loop-part-preserved
loop-part-preserved c =
    let part = c.loop-part.part in
    let least = c.match-index.least in
    let front : sum (take (part + 1) (slice_set c.loop-part.leasts part least)) ≡ sum (take part c.loop-part.leasts) + least =
    ap sum (take_more_set c.loop-part.leasts part least within) ∙ sum_by_push (λ (x : ℕ). x) (take part c.loop-part.leasts) least in
    record {
      wide = omega (arith, c.match-index.auto.costs, c.loop-part.invariant.wide);
      long = omega (arith, length-set c.loop-part.leasts part least, c.loop-part.invariant.long);
      costs = costs;
      each = least-more c.args.table.now c.args.groups.now c.args.level.now c.loop-part.leasts part least within c.loop-part.invariant.each here;
      sum = omega (arith, front, c.loop-part.invariant.sum, c.saturating_add-sum.ensures);
    }
  where
    within : c.loop-part.part < length c.loop-part.leasts
    within = omega (arith, c.loop-part-test.true, c.requires.table.few, c.loop-part.invariant.long)

    there : slice_get c.args.table.now.subparts.now c.loop-part.part ≡ Some (get_or c.args.table.now.subparts.now c.loop-part.part (record { first = 0; after = 0 }))
    there = (span-there c.args.table.now c.requires.table c.loop-part.part c.loop-part-test.true).0

    read : c.index.result.now ≡ get_or c.args.level.now.chosen.items c.loop-part.part None
    read =
        let inside : c.loop-part.part < length c.args.level.now.chosen.items = omega (arith, c.loop-part-test.true, c.requires.table.few, c.requires.level.chosen) in
        c.index.ensures ∙ get_or_default c.args.level.now.chosen.items c.loop-part.part c.index.result.now None inside

    here : (d : ℕ) → IsLeastAt c.args.table.now c.args.groups.now c.args.level.now c.loop-part.part d c.match-index.least
    here d = elim c.match-index.branch [
      | in-Some w ↦ rw there (λ from below flagged. rw w.least-is (omega arith))
      | in-None w ↦ rw there (λ from below flagged. rw w.least-is (w.write_span-least.ensures.least d from below flagged))
    ]

    costs : (k d : ℕ) → k < c.loop-part.part + 1 → get_or c.args.level.now.chosen.items k None ≡ None → IsCostAt c.args.table.now c.args.groups.now c.args.level.now c.match-index.costs k d
    costs k d below come = elim c.match-index.branch [
      | in-Some w ↦ rw w.costs-is (elim (cases_eq k c.loop-part.part) [
        | inl e ↦ absurd (cc (w.in-Some.is, read, come, e))
        | inr ne ↦ c.loop-part.invariant.costs k d (omega (arith, ne, below)) come
      ])
      | in-None w ↦ rw w.costs-is (costs-more c.args.table.now c.args.groups.now c.args.level.now c.loop-part.costs w.write_span-least.new.costs c.loop-part.part _ c.requires.table there
          c.loop-part.invariant.costs w.write_span-least.ensures.before w.write_span-least.ensures.costs k d below come)
    ]

pub returns-clause-costs : goal.returns-clause-costs
returns-clause-costs c = record { long = c.loop-part.invariant.wide; each = λ k d come. each k d come (cases_lt k (length c.args.table.now.subparts.now)) }
  where
    each : (k d : ℕ) → get_or c.args.level.now.chosen.items k None ≡ None → (k < length c.args.table.now.subparts.now) ⊎ (length c.args.table.now.subparts.now ≤ k)
        → IsCostAt c.args.table.now c.args.groups.now c.args.level.now c.loop-part.costs k d
    each k d come (inl below) = c.loop-part.invariant.costs k d (omega (arith, below, c.loop-part-test.false, c.loop-part.auto.part-end)) come
    each k d come (inr past) = rw (slice_get_past c.args.table.now.subparts.now k past) tt

pub returns-clause-leasts : goal.returns-clause-leasts
returns-clause-leasts c = record { long = c.loop-part.invariant.long; each = λ k d. each k d (cases_lt k (length c.args.table.now.subparts.now)) }
  where
    each : (k d : ℕ) → (k < length c.args.table.now.subparts.now) ⊎ (length c.args.table.now.subparts.now ≤ k)
        → IsLeastAt c.args.table.now c.args.groups.now c.args.level.now k d (get_or c.loop-part.leasts k 0)
    each k d (inl below) = c.loop-part.invariant.each k d (omega arith)
    each k d (inr past) = rw (slice_get_past c.args.table.now.subparts.now k past) tt

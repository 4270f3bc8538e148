use Rattle.std.proofs.Common.{◌≡◌, ◌+◌, ◌-◌, ◌^◌, ◌<◌, length, min, take, drop, ap, ◌∙◌, arith, get_or, count_by}
use Rattle.std.proofs.lemmas.Grind.{common_steps}
use Rattle.std.proofs.lemmas.List.{drop_all}
use Rattle.tt_least.specs.Judged.{conflict_in, pairs_in}
use Rattle.tt_least.proofs.LeafLemmas.{pairs-from, saturated-step}
use Rattle.tt_least.proofs.leaf.pairs_of.Goals as goal

pub loop-place-preserved : goal.loop-place-preserved
loop-place-preserved c =
    let t = c.args.table.now in
    let choice = c.args.choice.now in
    let k = c.loop-place.place in
    let rest = drop (k + 1) choice in
    let whole : take (length choice - (k + 1)) rest ≡ rest = grind (arith, common_steps) in
    let counted : c.conflicts_with.result ≡ count_by (conflict_in t (get_or choice k 0)) rest =
    c.conflicts_with.ensures ∙ ap (count_by (conflict_in t (get_or choice k 0))) whole in
    let below : k < length choice = omega arith in
    let all : min (c.loop-place.pairs + (c.weight.result + c.conflicts_with.result + pairs_in t rest)) (2 ^ 64 - 1) ≡ min (pairs_in t choice) (2 ^ 64 - 1) =
    rw (c.weight.ensures, counted, ← pairs-from t choice k below) c.loop-place.invariant.all in
    record {
      fits = c.saturating_add-pairs.type_inv;
      all = saturated-step _ _ _ _ c.loop-place.pairs c.weight.result c.conflicts_with.result (pairs_in t rest) c.saturating_add.ensures c.saturating_add-pairs.ensures all;
    }

pub returns : goal.returns
returns c =
    let none = ap (pairs_in c.args.table.now) (drop_all c.loop-place.place c.args.choice.now (omega arith)) in
    let all : c.loop-place.pairs ≡ min (pairs_in c.args.table.now c.args.choice.now) (2 ^ 64 - 1) = omega arith in
    all

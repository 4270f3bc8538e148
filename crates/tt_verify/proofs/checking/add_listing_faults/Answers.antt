use Rattle.std.proofs.Common.{◌≡◌, ◌∙◌, ◌++◌, ap, length, count_by}
use Rattle.std.specs.List.{flat_map, range_with_len}
use Rattle.std.proofs.lemmas.Result.{on_ok_weaker}
use Rattle.tt_base.specs.Lists.{is_listed}
use Rattle.tt_verify.specs.Counts.{limit_faults_by}
use Rattle.tt_verify.specs.Found.{listing_faults}
use Rattle.tt_verify.specs.Violations.{limit_fault}
use Rattle.tt_verify.proofs.CountLemmas.{limit_faults_counted}
use Rattle.tt_verify.proofs.WalkLemmas.{three_added}
use Rattle.tt_verify.proofs.checking.add_listing_faults.Goals as goal

pub returns : goal.returns
unfolding listing_faults
returns c =
    let p = c.args.problem.now in
    let lists = c.args.published.now.lists in
    let counted : limit_faults_by p c.deref.result.now ≡ flat_map (λ class. limit_fault p class (count_by (is_listed class) lists)) (range_with_len 0 (length p.classes)) =
    limit_faults_counted p lists c.deref.result.now (rw c.deref.ensures.value c.in_ok-counts.ensures) in
    on_ok_weaker c.add_limit_faults.result
    (λ found. three_added _ _ _ _ _ _ _ c.in_ok-add_class_faults.ensures c.in_ok-add_list_faults.ensures (found ∙ ap (λ l. c.add_list_faults.new.found.items ++ l) counted))
    c.add_limit_faults.ensures

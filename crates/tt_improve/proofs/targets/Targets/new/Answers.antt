use Rattle.std.proofs.Common.{map, length, ap, ◌∙◌, arith}
use Rattle.tt_improve.specs.Idle.{unlooked}
use Rattle.tt_improve.proofs.TableLemmas.{idle_new, targets_new}
use Rattle.tt_improve.proofs.targets.Targets.new.Goals as goal

pub returns-clause-targets : goal.returns-clause-targets
returns-clause-targets c =
    targets_new (record { table = c.in_ok-table.table }) c.in_ok-targets.targets.items (c.in_ok-table.ensures ∙ ap (map unlooked) c.as_slice.ensures.value) ∙ c.in_ok-targets.ensures.targets

pub returns-clause-few : goal.returns-clause-few
returns-clause-few c =
    let is = targets_new (record { table = c.in_ok-table.table }) c.in_ok-targets.targets.items (c.in_ok-table.ensures ∙ ap (map unlooked) c.as_slice.ensures.value) in
    omega (arith, ap length is, c.in_ok-targets.ensures.few)

pub returns-clause-idle : goal.returns-clause-idle
returns-clause-idle c =
    let h = c.args.state.now in
    idle_new h.problem h.present (record { table = c.in_ok-table.table }) c.as_slice.result.now c.in_ok-table.ensures

use Rattle.std.proofs.Common.{◌≡◌, Some, None, rules, refl}
use Rattle.tt_make.specs.Text.{make_text}
use Rattle.tt_top.specs.declared.form.Form.TheVariants.{Demo, Make}
use Rattle.tt_top.specs.Opening.{opened}
use Rattle.tt_top.specs.PlainRun.{demo_script, demo_run}
use Rattle.tt_top.proofs.EndLemmas.{is_seven}
use Rattle.tt_top.proofs.PlainRunLemmas.{plain_run, made_names}
use Rattle.tt_top.proofs.top.run_form.Goals as goal

pub returns-in-Some-Files-clause-runs : goal.returns-in-Some-Files-clause-runs
returns-in-Some-Files-clause-runs g c = rw c.in-Some-Files.is (search rules)

pub returns-in-Some-Verify-clause-runs : goal.returns-in-Some-Verify-clause-runs
returns-in-Some-Verify-clause-runs g c = rw c.in-Some-Verify.is (search rules)

pub returns-in-Some-Demo-clause-runs : goal.returns-in-Some-Demo-clause-runs
returns-in-Some-Demo-clause-runs g c =
    let e = c.demo.ensures in
    let d = c.in-Some-Demo in
    let form : c.args.form ≡ Some (Demo d.seed d.classes d.turns) = search rules in
    rw form
    (record {
      run = plain_run (demo_run d.seed d.classes d.turns) _ c.demo.result (made_names (demo_script d.seed d.turns) (opened (make_text d.seed d.classes) None)) e.writes e.cause refl refl;
      wanting = λ is. e.wanting (is_seven c.demo.result is);
    })

pub returns-in-Some-Make-clause-runs : goal.returns-in-Some-Make-clause-runs
returns-in-Some-Make-clause-runs g c =
    let e = c.make.ensures in
    let d = c.in-Some-Make in
    let form : c.args.form ≡ Some (Make d.seed d.classes) = search rules in
    rw form (plain_run _ _ c.make.result refl e.writes e.cause refl refl)

pub returns-in-None-clause-runs : goal.returns-in-None-clause-runs
returns-in-None-clause-runs g c =
    let e = c.usage.ensures in
    rw c.in-None.is (record { run = plain_run _ _ c.usage.result refl e.writes e.cause refl refl; no_memory = λ is. e.no_memory (is_seven c.usage.result is) })

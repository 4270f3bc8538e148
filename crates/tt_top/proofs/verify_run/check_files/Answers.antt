use Rattle.std.proofs.Common.{◌+◌, Some, subst, refl, [], ◌∷◌}
use Rattle.tt_base.proofs.ResultLemmas.{handed_on}
use Rattle.tt_io.specs.Causes.{most_read}
use Rattle.tt_top.specs.Words.{verify_words}
use Rattle.tt_top.specs.PlainRun.{PlainRun, Phase, problem_phase}
use Rattle.tt_top.specs.Phases.{solution_phase, check_phase}
use Rattle.tt_top.specs.Ends.{Agrees}
use Rattle.tt_top.specs.Checks.{check_seen}
use Rattle.tt_top.proofs.FetchLemmas.{then_agrees, faulty_first, ended_first, rest_asked, fetches_none, fetches_fault, fetches_all}
use Rattle.tt_top.proofs.VerifyLemmas.{solution_same, solution_named, solution_within, check_within, seen_ok}
use Rattle.tt_top.proofs.ReadLemmas.{held_same, read_same, reads_after, holds_after}
use Rattle.tt_top.proofs.verify_run.check_files.Goals as goal

pub returns-in-Ok-clause-checks : goal.returns-in-Ok-clause-checks
returns-in-Ok-clause-checks g c =
    let problem = c.args.problem.now in
    let solution = c.args.solution.now in
    let words = verify_words problem solution in
    let names = problem ∷ solution ∷ [] in
    let holds = g.F.Files.holds c.args.files.now in
    let e = c.check_solution.ensures in
    let r = check_seen names c.check_solution.result in
    let first = rw c.in-Ok.is at c.in_ok-problem.ensures.agrees in
    let has = c.in_ok-problem.ensures.fits refl in
    fetches_all words c.args.setting.limit holds _ (check_phase c.args.setting.limit holds problem solution) (g.F.Files.asked c.args.files.now) (g.F.Files.asked c.check_solution.new.files) (g.F.Files.asked c.fetch_problem.new.files) r c.fetch_problem.ensures.asks e.asks
    (rest_asked words r (solution_named names solution c.check_solution.result e.input)) (solution_within c.args.setting.limit holds problem solution c.in-Ok.problem first)
    (then_agrees names (problem_phase c.args.setting.limit holds problem) (λ p. solution_phase c.args.setting.limit holds names p solution) c.in-Ok.problem first r
    (subst (λ (phase : Phase PlainRun). Agrees names phase r)
    (solution_same c.args.setting.limit holds (g.F.Files.holds c.fetch_problem.new.files) names c.in-Ok.problem solution c.fetch_problem.ensures.same) (e.agrees names)))
    (reads_after c.args.setting.limit holds _ (problem ∷ []) (Some solution) (has, tt)
    (read_same (c.args.setting.limit + most_read) holds (g.F.Files.holds c.fetch_problem.new.files) c.fetch_problem.ensures.same _ (Some solution) e.reads))
    (λ ok. holds_after c.args.setting.limit holds problem (Some solution) has (held_same c.args.setting.limit holds (g.F.Files.holds c.fetch_problem.new.files) c.fetch_problem.ensures.same (Some solution) (e.fits (seen_ok names c.check_solution.result ok))))

pub returns-in-Err-clause-checks : goal.returns-in-Err-clause-checks
returns-in-Err-clause-checks g c =
    let problem = c.args.problem.now in
    let solution = c.args.solution.now in
    let holds = g.F.Files.holds c.args.files.now in
    fetches_fault (verify_words problem solution) c.args.setting.limit holds _ (check_phase c.args.setting.limit holds problem solution) (g.F.Files.asked c.args.files.now) (g.F.Files.asked c.fetch_problem.new.files) c.in-Err.fault (rw c.in-Err.is at c.in_ok-problem.ensures.input) c.fetch_problem.ensures.asks
    (check_within c.args.setting.limit holds problem solution) (faulty_first (problem ∷ []) (problem_phase c.args.setting.limit holds problem) (λ p. solution_phase c.args.setting.limit holds (problem ∷ solution ∷ []) p solution) c.in-Err.fault (rw c.in-Err.is at c.in_ok-problem.ensures.agrees))
    c.in_ok-problem.ensures.reads (c.in_ok-problem.ensures.fits refl)

pub returns-in_err-problem-clause-checks : goal.returns-in_err-problem-clause-checks
returns-in_err-problem-clause-checks g c =
    let problem = c.args.problem.now in
    let solution = c.args.solution.now in
    let holds = g.F.Files.holds c.args.files.now in
    rw (handed_on _ _ c.from_residual.ensures.1)
    (fetches_none (verify_words problem solution) c.args.setting.limit holds _ (check_phase c.args.setting.limit holds problem solution) (g.F.Files.asked c.args.files.now) (g.F.Files.asked c.fetch_problem.new.files) c.in_err-problem.field-0.0 c.fetch_problem.ensures.asks (check_within c.args.setting.limit holds problem solution)
    (ended_first (problem ∷ []) (problem_phase c.args.setting.limit holds problem) (λ p. solution_phase c.args.setting.limit holds (problem ∷ solution ∷ []) p solution) c.in_err-problem.field-0.0 c.in_err-problem.ensures.agrees)
    c.in_err-problem.ensures.reads)

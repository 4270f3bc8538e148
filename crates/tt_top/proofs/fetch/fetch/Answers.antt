use Rattle.std.proofs.Common.{◌+◌, subst, refl, [], ◌∷◌}
use Rattle.tt_desk.specs.Desk.{Session}
use Rattle.tt_base.proofs.ResultLemmas.{handed_on}
use Rattle.tt_io.specs.Causes.{most_read}
use Rattle.tt_top.specs.Words.{first_words}
use Rattle.tt_top.specs.PlainRun.{Phase, problem_phase, session_phase}
use Rattle.tt_top.specs.Phases.{start_phase}
use Rattle.tt_top.specs.Ends.{Agrees}
use Rattle.tt_top.specs.Forms.{words_seen}
use Rattle.tt_top.proofs.FetchLemmas.{then_agrees, faulty_first, ended_first, start_same, problem_within, start_within, opened_faulty, opened_by, rest_asked, fetches_none, fetches_fault, fetches_all}
use Rattle.tt_top.proofs.ReadLemmas.{held_same, read_same, reads_after, holds_after}
use Rattle.tt_top.proofs.fetch.fetch.Goals as goal

pub returns-in-Ok-clause-fetches : goal.returns-in-Ok-clause-fetches
returns-in-Ok-clause-fetches g c =
    let words = words_seen c.args.words in
    let holds = g.F.Files.holds c.args.files.now in
    let e = c.fetch_rest.ensures in
    let first = rw c.in-Ok.is at c.in_ok-problem.ensures.agrees in
    let has = c.in_ok-problem.ensures.fits refl in
    fetches_all words c.args.setting.limit holds _ (session_phase c.args.setting.limit holds words) (g.F.Files.asked c.args.files.now) (g.F.Files.asked c.fetch_rest.new.files) (g.F.Files.asked c.fetch_problem.new.files) c.fetch_rest.result c.fetch_problem.ensures.asks e.asks
    (rest_asked words c.fetch_rest.result e.input) (start_within c.args.setting.limit holds words c.in-Ok.problem first)
    (then_agrees (first_words words) (problem_phase c.args.setting.limit holds words.problem) (λ p. start_phase c.args.setting.limit holds (first_words words) p words.published) c.in-Ok.problem first c.fetch_rest.result
    (subst (λ (phase : Phase Session). Agrees (first_words words) phase c.fetch_rest.result)
    (start_same c.args.setting.limit holds (g.F.Files.holds c.fetch_problem.new.files) (first_words words) c.in-Ok.problem words.published c.fetch_problem.ensures.same) (e.agrees (first_words words))))
    (reads_after c.args.setting.limit holds _ (words.problem ∷ []) words.published (has, tt) (read_same (c.args.setting.limit + most_read) holds (g.F.Files.holds c.fetch_problem.new.files) c.fetch_problem.ensures.same _ words.published e.reads))
    (λ ok. holds_after c.args.setting.limit holds words.problem words.published has (held_same c.args.setting.limit holds (g.F.Files.holds c.fetch_problem.new.files) c.fetch_problem.ensures.same words.published (e.fits ok)))

pub returns-in-Ok-clause-read : goal.returns-in-Ok-clause-read
returns-in-Ok-clause-read g c = opened_by c.in-Ok.problem (rw c.in-Ok.is at c.in_ok-problem.ensures.read) c.fetch_rest.result c.fetch_rest.ensures.read

pub returns-in-Err-clause-fetches : goal.returns-in-Err-clause-fetches
returns-in-Err-clause-fetches g c =
    let words = words_seen c.args.words in
    let holds = g.F.Files.holds c.args.files.now in
    fetches_fault words c.args.setting.limit holds _ (session_phase c.args.setting.limit holds words) (g.F.Files.asked c.args.files.now) (g.F.Files.asked c.fetch_problem.new.files) c.in-Err.fault (rw c.in-Err.is at c.in_ok-problem.ensures.input) c.fetch_problem.ensures.asks (problem_within c.args.setting.limit holds words)
    (faulty_first (words.problem ∷ []) (problem_phase c.args.setting.limit holds words.problem) (λ p. start_phase c.args.setting.limit holds (first_words words) p words.published) c.in-Err.fault (rw c.in-Err.is at c.in_ok-problem.ensures.agrees))
    c.in_ok-problem.ensures.reads (c.in_ok-problem.ensures.fits refl)

pub returns-in-Err-clause-read : goal.returns-in-Err-clause-read
returns-in-Err-clause-read g c = opened_faulty c.in-Err.fault (rw c.in-Err.is at c.in_ok-problem.ensures.read)

pub returns-in_err-problem-clause-fetches : goal.returns-in_err-problem-clause-fetches
returns-in_err-problem-clause-fetches g c =
    let words = words_seen c.args.words in
    let holds = g.F.Files.holds c.args.files.now in
    rw (handed_on _ _ c.from_residual.ensures.1)
    (fetches_none words c.args.setting.limit holds _ (session_phase c.args.setting.limit holds words) (g.F.Files.asked c.args.files.now) (g.F.Files.asked c.fetch_problem.new.files) c.in_err-problem.field-0.0 c.fetch_problem.ensures.asks (problem_within c.args.setting.limit holds words)
    (ended_first (words.problem ∷ []) (problem_phase c.args.setting.limit holds words.problem) (λ p. start_phase c.args.setting.limit holds (first_words words) p words.published) c.in_err-problem.field-0.0 c.in_err-problem.ensures.agrees)
    c.in_err-problem.ensures.reads)

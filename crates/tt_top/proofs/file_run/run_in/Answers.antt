use Rattle.std.proofs.Common.{◌+◌, Ok, Err}
use Rattle.tt_base.proofs.ResultLemmas.{handed_on}
use Rattle.tt_io.specs.Causes.{most_read}
use Rattle.tt_top.specs.declared.end.End.TheVariants.{Files, Sink}
use Rattle.tt_top.specs.declared.end.Done.TheVariants.{Faulty}
use Rattle.tt_top.specs.Run.{Outside}
use Rattle.tt_top.specs.Ends.{outside_of}
use Rattle.tt_top.specs.Forms.{words_seen}
use Rattle.tt_top.proofs.EndLemmas.{done_cause, has_causes, same_cause}
use Rattle.tt_top.proofs.FileRunLemmas.{early_run, faulty_run, served_run, script_same}
use Rattle.tt_top.proofs.ReadLemmas.{read_same}
use Rattle.tt_top.proofs.file_run.run_in.Goals as goal

pub returns-in_err-session-clause-runs : goal.returns-in_err-session-clause-runs
returns-in_err-session-clause-runs g c =
    let e = c.in_err-session.ensures in
    let end = c.in_err-session.field-0.0 in
    let o : Outside = outside_of g.F.Files.holds g.F.Files.asked g.F.Files.is_open g.F.Files.left g.F.Files.faults g.S.Sink.written g.S.Sink.faults c.args.outside.now.files.now c.begin.new.files c.args.outside.now.out.now c.begin.new.out in
    rw (handed_on _ _ c.from_residual.ensures.1)
    (early_run (words_seen c.args.words) c.args.setting.limit o end e.fetches e.opens (has_causes o (Err end) (same_cause Files o.before.files o.now.files end e.files) (same_cause Sink o.before.sink o.now.sink end e.sink)))

pub returns-in-Err-clause-runs : goal.returns-in-Err-clause-runs
returns-in-Err-clause-runs g c =
    let e = rw c.in-Err.is at c.in_ok-session.ensures in
    let done = Faulty c.in-Err.fault.input in
    let o : Outside = outside_of g.F.Files.holds g.F.Files.asked g.F.Files.is_open g.F.Files.left g.F.Files.faults g.S.Sink.written g.S.Sink.faults c.args.outside.now.files.now c.begin.new.files c.args.outside.now.out.now c.begin.new.out in
    faulty_run (words_seen c.args.words) c.args.setting.limit o c.in-Err.fault e.fetches e.opens (has_causes o (Ok done) (done_cause Files o.before.files o.now.files _ done e.files) (done_cause Sink o.before.sink o.now.sink _ done e.sink))

pub returns-in-Ok-clause-runs : goal.returns-in-Ok-clause-runs
returns-in-Ok-clause-runs g c =
    let e = rw c.in-Ok.is at c.in_ok-session.ensures in
    let s = c.serve_script.ensures in
    let first : Outside = outside_of g.F.Files.holds g.F.Files.asked g.F.Files.is_open g.F.Files.left g.F.Files.faults g.S.Sink.written g.S.Sink.faults c.args.outside.now.files.now c.begin.new.files c.args.outside.now.out.now c.begin.new.out in
    let o : Outside = outside_of g.F.Files.holds g.F.Files.asked g.F.Files.is_open g.F.Files.left g.F.Files.faults g.S.Sink.written g.S.Sink.faults c.args.outside.now.files.now c.serve_script.new.files c.args.outside.now.out.now c.serve_script.new.out in
    rw c.served.ensures
    (served_run (words_seen c.args.words) c.args.setting.limit o first.now c.in-Ok.session e.fetches e.opens e.files e.sink c.serve_script.result s.done
    (λ t told. s.serves t (script_same o.holds _ _ c.begin.ensures.same told)) (read_same (c.args.setting.limit + most_read) o.holds _ c.begin.ensures.same _ _ s.reads) s.some s.grows s.asks s.files s.sink)

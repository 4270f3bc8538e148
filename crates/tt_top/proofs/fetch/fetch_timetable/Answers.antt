use Rattle.std.proofs.Common.{◌≡◌, ◌+◌, ap, Err}
use Rattle.tt_base.proofs.ResultLemmas.{handed_on}
use Rattle.tt_io.specs.Causes.{most_read}
use Rattle.tt_solution.specs.Tables.{published_of}
use Rattle.tt_top.specs.Opening.{timetable_read}
use Rattle.tt_top.specs.Ends.{seen}
use Rattle.tt_top.proofs.FetchLemmas.{read_agrees, unread_agrees, some_bytes}
use Rattle.tt_top.proofs.ReadLemmas.{held_told, read_told, within_read}
use Rattle.tt_top.proofs.fetch.fetch_timetable.Goals as goal

pub returns-clause-agrees : goal.returns-clause-agrees
returns-clause-agrees g c = λ names.
    let e = c.timetable_in.ensures in
    read_agrees c.args.setting.limit names (g.F.Files.holds c.args.files.now c.args.name.now) (λ b. timetable_read (published_of c.args.problem.now b)) _ c.in_ok-bytes.ensures.bytes c.timetable_in.result (rw c.deref.ensures.value at e.reads) e.only

pub returns-in_err-bytes-clause-agrees : goal.returns-in_err-bytes-clause-agrees
returns-in_err-bytes-clause-agrees g c = λ names.
    rw (handed_on _ _ c.from_residual.ensures.1)
    (unread_agrees c.args.setting.limit names (g.F.Files.holds c.args.files.now c.args.name.now) (λ b. timetable_read (published_of c.args.problem.now b)) c.in_err-bytes.field-0.0 (λ is. c.in_err-bytes.ensures.long (ap Err is)))

pub returns-clause-read : goal.returns-clause-read
returns-clause-read g c = some_bytes (λ bytes l. timetable_read (published_of c.args.problem.now bytes) ≡ seen l) _ c.timetable_in.result c.timetable_in.ensures.reads

pub returns-clause-fits : goal.returns-clause-fits
returns-clause-fits g c = λ _. held_told c.args.setting.limit (g.F.Files.holds c.args.files.now) c.args.name.now _ c.in_ok-bytes.ensures.bytes

pub returns-clause-reads : goal.returns-clause-reads
returns-clause-reads g c =
    let holds = g.F.Files.holds c.args.files.now in
    within_read c.args.setting.limit holds _ c.args.name.now (held_told c.args.setting.limit holds c.args.name.now _ c.in_ok-bytes.ensures.bytes)

pub returns-in_err-bytes-clause-reads : goal.returns-in_err-bytes-clause-reads
returns-in_err-bytes-clause-reads g c = read_told (c.args.setting.limit + most_read) (g.F.Files.holds c.args.files.now) c.args.name.now _ _ c.in_err-bytes.ensures.reads

use Rattle.std.proofs.Common.{◌≤◌, ◌<◌, ◌^◌, length, length-append, lit<, decimal, arith}
use Rattle.std.proofs.lemmas.Fmt.{length-decimal-le_wide}
use Rattle.tt_text.specs.Fields.{field}
use Rattle.tt_text.proofs.reply.Reply.field.Goals as goal

pub returns-in_err-text-clause-short : goal.returns-in_err-text-clause-short
unfolding field
returns-in_err-text-clause-short c =
    let fits : c.args.n < 2 ^ 128 = c.ranges.n.fits in
    let digits : length (decimal c.args.n) ≤ 39 = length-decimal-le_wide 39 c.args.n (lit< tt) (omega arith) (omega arith) in
    omega (arith, length-append c.args.t.now (decimal c.args.n), digits)

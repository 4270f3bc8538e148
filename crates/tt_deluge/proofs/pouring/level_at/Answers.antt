use Rattle.std.proofs.Common.{ℕ, ◌<◌, ◌-◌, max, ap, ◌∙◌, arith}
use Rattle.tt_deluge.proofs.LevelLemmas.{sunk-is}
use Rattle.tt_deluge.proofs.pouring.level_at.Goals as goal

pub returns : goal.returns
returns c =
    let some : 0 < c.args.rounds = omega (arith, c.requires) in
    rw (c.from-all.ensures, c.from-made.ensures) at c.max.ensures
    ∙ ap (λ (n : ℕ). max c.args.present (c.args.first - n)) (sunk-is c.args.first c.args.rounds c.args.round some)

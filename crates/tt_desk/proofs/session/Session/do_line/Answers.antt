use Rattle.std.proofs.Common.{sym, ◌∙◌}
use Rattle.tt_desk.proofs.CarriedLemmas.{carried, good_ok, good_memory, good_kept, good_done, good_accepted}
use Rattle.tt_desk.proofs.session.Session.do_line.Goals as goal

pub returns-in-Good-clause-ok : goal.returns-in-Good-clause-ok
returns-in-Good-clause-ok g c =
    let o = c.carry_out-carried in
    rw (c.outcome_of.ensures, c.is_quit-ends.ensures) (good_ok c.args.self.now c.args.line.now c.in-Good.command o.new.self o.new.reply (sym c.in_ok-read_line.ensures.ok ∙ c.in-Good.is) _ (carried _ _ _ _ o.result o.ensures))

pub returns-in-Good-clause-memory : goal.returns-in-Good-clause-memory
returns-in-Good-clause-memory g c =
    let o = c.carry_out-carried in
    rw (c.outcome_of.ensures, c.is_quit-ends.ensures) (good_memory c.args.self.now c.args.line.now c.in-Good.command o.new.self o.new.reply (sym c.in_ok-read_line.ensures.ok ∙ c.in-Good.is) _ (carried _ _ _ _ o.result o.ensures))

pub returns-in-Good-clause-kept : goal.returns-in-Good-clause-kept
returns-in-Good-clause-kept g c =
    let o = c.carry_out-carried in
    rw (c.outcome_of.ensures, c.is_quit-ends.ensures) (good_kept c.args.self.now c.args.line.now c.in-Good.command o.new.self o.new.reply (sym c.in_ok-read_line.ensures.ok ∙ c.in-Good.is) _ (carried _ _ _ _ o.result o.ensures))

pub returns-in-Good-clause-done : goal.returns-in-Good-clause-done
returns-in-Good-clause-done g c =
    let o = c.carry_out-carried in
    rw (c.outcome_of.ensures, c.is_quit-ends.ensures) (good_done c.args.self.now c.args.line.now c.in-Good.command o.new.self o.new.reply (sym c.in_ok-read_line.ensures.ok ∙ c.in-Good.is) _ (carried _ _ _ _ o.result o.ensures))

pub returns-in-Good-clause-accepted : goal.returns-in-Good-clause-accepted
returns-in-Good-clause-accepted g c =
    let o = c.carry_out-carried in
    rw (c.outcome_of.ensures, c.is_quit-ends.ensures) (good_accepted c.args.self.now c.args.line.now c.in-Good.command o.new.self o.new.reply (sym c.in_ok-read_line.ensures.ok ∙ c.in-Good.is) _ (carried _ _ _ _ o.result o.ensures))

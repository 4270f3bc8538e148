use Rattle.std.proofs.Common.{ap}
use Rattle.tt_desk.specs.Desk.{moved_text}
use Rattle.tt_desk.proofs.ReplyLemmas.{grown_twice}
use Rattle.tt_desk.proofs.reply.add_result.Goals as goal

pub returns : goal.returns
returns c = grown_twice _ _ c.field.new.self _ _ (moved_text c.moved_then-moved.result) _ c.in_ok-field.ensures.ok (ap moved_text c.moved_then-moved.ensures) c.add_moved.ensures.text

use Rattle.std.specs.Prelude.{◌-◌, ◌%◌}
use Rattle.tt_make.proofs.Pieces.{plain_word, types_are_plain, turn_written}
use Rattle.tt_make.proofs.rules.push_turn.Goals as goal

pub push_word-requires : goal.push_word-requires
push_word-requires c = plain_word _ _ c.type_word.ensures (types_are_plain ((c.args.k - 1) % 19))

pub returns : goal.returns
returns c = turn_written c.args.k c.args.penalty _ _ _ _ _ _ _ c.type_word.ensures c.in_ok-push_text.ensures c.in_ok-push_four.ensures c.in_ok-push_strength.ensures c.in_ok-push_word.ensures c.in_ok-push_text-2.ensures

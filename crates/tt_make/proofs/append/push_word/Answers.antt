use Rattle.tt_make.proofs.Pieces.{word_quoted}
use Rattle.tt_make.proofs.append.push_word.Goals as goal

pub returns : goal.returns
returns c = word_quoted _ _ _ _ _ _ _ c.requires c.in_ok-push_text.ensures c.in_ok-push.ensures.items c.in_ok-push_text-2.ensures c.in_ok-push-2.ensures.items

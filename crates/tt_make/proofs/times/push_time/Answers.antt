use Rattle.tt_make.proofs.Pieces.{plain_word, days_are_plain, weeks_are_plain, time_written}
use Rattle.tt_make.proofs.times.push_time.Goals as goal

pub push_word-requires : goal.push_word-requires
push_word-requires c = plain_word _ _ c.day_word.ensures (days_are_plain c.args.drawn.days)

pub push_word-requires-2 : goal.push_word-requires-2
push_word-requires-2 c = plain_word _ _ c.week_word.ensures (weeks_are_plain c.args.drawn.weeks)

pub returns : goal.returns
returns c =
    let d = c.args.drawn in
    time_written d.days d.start d.length d.weeks d.penalty _ _ _ _ _ _ _ _ _ c.day_word.ensures c.week_word.ensures c.in_ok-push_word.ensures c.in_ok-push_field.ensures c.in_ok-push_field-2.ensures
    c.in_ok-push_field-3.ensures c.in_ok-push_word-2.ensures c.in_ok-push_text.ensures

use Rattle.std.proofs.Common.{rules, ◌≡◌, ◌+◌, length, subst, arith}
use Rattle.tt_problem.specs.Spans.{Covers}
use Rattle.tt_tree.proofs.Whole.{more_classes}
use Rattle.tt_tree.proofs.courses.SubpartTableNextTableSubparts.read_next.Goals as goal

pub returns-clause-valid : goal.returns-clause-valid
returns-clause-valid c =
    let pushed = c.in_ok-push_span.ensures in
    let more : length c.read_onto.new.before.classes.items ≡ length c.args.before.now.classes.classes.items + length c.in_ok-items.items.values.now =
    more_classes _ _ _ _ _ c.in_ok-read_onto.ensures.reads in
    let first : c.len-first.result ≡ length c.args.before.now.classes.classes.items = search rules in
    let end : c.len.result ≡ length c.read_onto.new.before.classes.items = search rules in (
      c.requires.valid.0,
      record {
        classes = c.in_ok-read_onto.ensures.valid.1;
        few_classes = omega (arith, more, first, c.in_ok-items.ensures.count, c.requires.valid.1.few_classes);
        few = pushed.few;
        spans = subst (Covers c.push_span.new.spans.items) end pushed.covers;
      },
    )

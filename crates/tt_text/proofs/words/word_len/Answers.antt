use Rattle.std.proofs.Common.{arith, sym, ◌∙◌, length}
use Rattle.tt_text.proofs.WordLemmas.{first_word}
use Rattle.tt_text.proofs.words.word_len.Goals as goal

pub returns-then-is_space-clause-first : goal.returns-then-is_space-clause-first
returns-then-is_space-clause-first c =
    first_word c.args.line.now c.loop-i.i c.requires.some c.requires.begins (omega (arith, c.loop-i-test.true)) c.loop-i.invariant (λ lt. sym c.is_space.ensures ∙ c.if-is_space.true)

pub returns-clause-first : goal.returns-clause-first
returns-clause-first c = first_word c.args.line.now (length c.args.line.now) c.requires.some c.requires.begins (omega arith) (λ k lt. c.loop-i.invariant k (omega (arith, lt, c.loop-i-test.false))) (λ lt. absurd (omega arith))

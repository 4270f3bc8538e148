use Rattle.std.proofs.Common.{◌≡◌, ℕ, ◌<◌, slice_index, false}
use Rattle.tt_text.specs.Line.{is_blank}
use Rattle.tt_text.proofs.words.word_len.Given as goal

abbrev pub invariant-loop-i : goal.invariant-loop-i
invariant-loop-i l = (k : ℕ) → k < l.i → is_blank (slice_index l.line k) ≡ false

use Rattle.std.proofs.Common.{◌≡◌, string_bytes}
use Rattle.tt_bits.specs.Sets.{set_text}
use Rattle.tt_bits.proofs.writing.set_text.Given as goal

abbrev pub invariant-loop-place : goal.invariant-loop-place
invariant-loop-place l = string_bytes l.text ≡ set_text l.place l.set

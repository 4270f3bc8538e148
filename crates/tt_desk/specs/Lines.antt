-- Contract. The line of a refusal.
use Rattle.std.specs.Prelude.{ℕ, List, ◌++◌, codes}
use Rattle.tt_desk.specs.declared.refusal.Refusal.{Refusal}
use Rattle.tt_desk.specs.Refusals.{refusal_text}

-- `refused`, the number and the words of a refusal
abbrev pub refusal_line : Refusal → List ℕ
refusal_line r = codes "refused " ++ refusal_text r ++ codes "\n"

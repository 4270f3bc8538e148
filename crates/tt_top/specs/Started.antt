-- Proof. What is fetched where a session was to be started.
use Rattle.std.specs.Prelude.{Result, Ok, Err}
use Rattle.tt_desk.specs.Desk.{Session}
use Rattle.tt_top.specs.declared.end.End.{End}
use Rattle.tt_top.specs.declared.end.End.TheVariants.{Memory}
use Rattle.tt_top.specs.declared.end.InputFault.{InputFault}

-- the session, unless memory is wanting
abbrev pub fetched_by : {E : Type 0} → Result Session E → Result (Result Session InputFault) End
fetched_by (Ok s) = Ok (Ok s)
fetched_by (Err e) = Err Memory

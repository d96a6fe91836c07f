-- Why lines are answered no further.
use Rattle.std.specs.Prelude.{Result, Ok, Err}
use Rattle.gd_input.specs.declared.fault.InputFault.{InputFault}
use Rattle.gd_input.specs.declared.fault.InputFault.TheVariants as input
use Rattle.gd_answering.specs.declared.stop.Stop.{Stop}
use Rattle.gd_answering.specs.declared.stop.Stop.TheVariants as stop

-- what a fault of the input stops by
abbrev pub stop_of : InputFault → Stop
stop_of input.Failed = stop.ReadFault
stop_of input.TooMuch = stop.TooMuch
stop_of input.Memory = stop.Memory

-- all of the input was answered, no further line was read, or it stopped at a line
abbrev pub EndsAs : Result (Unit {0}) Stop → (whole between within : Type 0) → Type 0
EndsAs (Ok u) whole between within = whole
EndsAs (Err stop.ReadFault) whole between within = between
EndsAs (Err stop.TooMuch) whole between within = between
EndsAs (Err stop.Memory) whole between within = between
EndsAs (Err stop.SinkFault) whole between within = within

-- where it ended behind a line it is so
abbrev pub IfBetween : Result (Unit {0}) Stop → Type 0 → Type 0
IfBetween end it = EndsAs end it it (Unit {0})

-- it stopped only where the cause is there
abbrev pub EndsBy : Result (Unit {0}) Stop → (read_failed sink_failed is_long : Type 0) → Type 0
EndsBy (Ok u) read_failed sink_failed is_long = Unit {0}
EndsBy (Err stop.ReadFault) read_failed sink_failed is_long = read_failed
EndsBy (Err stop.TooMuch) read_failed sink_failed is_long = is_long
EndsBy (Err stop.Memory) read_failed sink_failed is_long = Unit {0}
EndsBy (Err stop.SinkFault) read_failed sink_failed is_long = sink_failed

-- Lines of a node as they were read.
use Rattle.std.specs.Prelude.{◌≤◌, Result}
use Rattle.gd_runs.specs.Input.{InputFault}
use Rattle.gd_mql.specs.Requests.{read_set_view, GivesAsked}
use Rattle.gd_fault.specs.declared.fault.LineFault.{LineFault}
use Rattle.gd_following.specs.Lines as lines
use Rattle.gd_following.specs.declared.line.FollowLine.{FollowLine}
use Rattle.gd_following.specs.declared.line.FollowLine.TheVariants.{Ask, Give, Read}

-- the line that this is
abbrev pub line_view : FollowLine → lines.FollowLine
line_view (Ask from most) = lines.ask from most
line_view (Give from group) = lines.give from group.items
line_view (Read sid r) = lines.read sid (read_set_view r)

-- the call gives the line or the fault that is expected, or else memory was wanting
abbrev pub GivesFollow : Result lines.FollowLine InputFault → Result FollowLine LineFault → Type 0
GivesFollow expected result = GivesAsked line_view expected result

-- it asks for 1 to 256 batches at most
abbrev pub IsBounded : FollowLine → Type 0
IsBounded (Ask from most) = (1 ≤ most) × (most ≤ 256)
IsBounded _ = Unit {0}

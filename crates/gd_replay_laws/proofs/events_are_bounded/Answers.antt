use Rattle.gd_replay_laws.proofs.Bounds.{event_bounded}
use Rattle.gd_replay_laws.proofs.events_are_bounded.Goals as goal

pub returns : goal.returns
returns c = event_bounded

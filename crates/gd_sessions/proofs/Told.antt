-- A session that was told what is kept of its write.
use Rattle.std.proofs.Common.{◌≡◌, ℕ, ◌+◌, ◌<◌, List, length, sym, ap, ◌∙◌}
use Rattle.std.specs.Prelude.{set, min, max}
use Rattle.gd_runs.specs.Core.{Session, with_session}
use Rattle.gd_runs.specs.Side.{Kept, kept_stored, kept_late, kept_refused, kept_doubt, kept_unsettled, kept_memory}
use Rattle.gd_core_laws.specs.Writes.{after_kept}
use Rattle.gd_writer.specs.Side.{SideValue, state_of}
use Rattle.gd_sessions.specs.declared.held.Held.{Held}
use Rattle.gd_sessions.specs.Held.{session_view, sessions_of}
use Rattle.gd_sessions.specs.Writes.{IsToldKept}
use Rattle.gd_sessions.proofs.Steps.{session_stays}
use Rattle.gd_sessions.proofs.Table.{state_set}

stays : {D C : Type 0} (side : SideValue D C) (hs : List Held) (i : ℕ) (before after : Held) → i < length hs → session_view before ≡ sessions_of hs i → after ≡ before
    → state_of side (sessions_of hs) ≡ state_of side (sessions_of (set hs i after))
stays side hs i before after lt same told =
    sym (state_set side hs i after lt ∙ session_stays (state_of side (sessions_of hs)) i (session_view after) (ap session_view told ∙ same))

pub told_state : {D C : Type 0} (side : SideValue D C) (hs : List Held) (i : ℕ) (before after : Held) (kept : Kept) → i < length hs → session_view before ≡ sessions_of hs i
    → IsToldKept kept (length side.shown) before after → after_kept i kept (state_of side (sessions_of hs)) ≡ state_of side (sessions_of (set hs i after))
told_state side hs i before after (kept_stored e r) lt same told =
    let seen : Session → Session = λ x. record { seen = min (length side.shown) (max (e + 1) x.seen); reading = x.reading } in
    sym (state_set side hs i after lt ∙ ap (with_session (state_of side (sessions_of hs)) i) (ap session_view told ∙ ap seen same))
told_state side hs i before after (kept_late e) lt same told = stays side hs i before after lt same told
told_state side hs i before after (kept_refused f n) lt same told = stays side hs i before after lt same told
told_state side hs i before after (kept_doubt n) lt same told = stays side hs i before after lt same told
told_state side hs i before after kept_unsettled lt same told = stays side hs i before after lt same told
told_state side hs i before after kept_memory lt same told = stays side hs i before after lt same told

-- What a refusal prints.
use Rattle.std.specs.Prelude.{[], ◌∷◌, ◌<◌, ◌^◌, codes}
use Rattle.gd_tree.specs.Json.{text}
use Rattle.gd_defs.specs.Lines.{Refusal as Printed, refusal as printed, refused_at, too_wide, too_large, bad_cursor, cursor_ahead}
use Rattle.gd_defs.specs.Write.{key_taken, stale_version, full}
use Rattle.gd_defs.specs.Reply.{bad_query_refusal}
use Rattle.gd_runs.specs.Request.{change_refusal}
use Rattle.gd_runs.specs.Input.{json_refusal}
use Rattle.gd_fault.specs.Fault.{code_view}
use Rattle.gd_reply.specs.declared.refusal.Refusal.{Refusal}
use Rattle.gd_reply.specs.declared.refusal.Refusal.TheVariants as refusal

-- the error with its information
abbrev pub refusal_of : Refusal → Printed
refusal_of refusal.LineTooLong = printed (codes "LineTooLong") []
refusal_of (refusal.Json f) = json_refusal f
refusal_of refusal.BadLine = printed (codes "BadLine") []
refusal_of (refusal.BadQuery code path) = bad_query_refusal (code_view code) path
refusal_of (refusal.Full what count) = change_refusal (full what count)
refusal_of (refusal.NoSuchId path) = printed (codes "NoSuchId") ((codes "path", text path) ∷ [])
refusal_of (refusal.NoSuchProperty path) = refused_at (codes "NoSuchProperty") path
refusal_of (refusal.NotUnique path) = refused_at (codes "NotUnique") path
refusal_of (refusal.KeyTaken key holder) = change_refusal (key_taken key holder)
refusal_of (refusal.StaleVersion previous successor) = change_refusal (stale_version previous successor)
refusal_of (refusal.BadCursor offset) = bad_cursor offset
refusal_of (refusal.CursorAhead asked have) = cursor_ahead asked have
refusal_of (refusal.TooWideAnswer weight) = too_wide weight
refusal_of (refusal.ReplyTooLarge bytes) = too_large bytes
refusal_of refusal.Memory = printed (codes "Memory") []

-- a number that it tells is one of JSON
abbrev pub CountsFit : Refusal → Type 0
CountsFit (refusal.Full what count) = count < 2 ^ 63
CountsFit (refusal.ReplyTooLarge bytes) = bytes < 2 ^ 63
CountsFit (refusal.BadCursor offset) = offset < 2 ^ 63
CountsFit _ = Unit {0}

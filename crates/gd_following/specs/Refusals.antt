-- The refusals of a node's own.
use Rattle.std.specs.Prelude.{[], ◌∷◌, ◌<◌, ◌^◌, codes}
use Rattle.gd_defs.specs.Lines.{Refusal as Printed, refusal as printed, count_json}
use Rattle.gd_following.specs.Replies.{too_large, bad_group}
use Rattle.gd_following.specs.declared.refusal.Refusal.{Refusal}
use Rattle.gd_following.specs.declared.refusal.Refusal.TheVariants as refusal

-- the error with its information
abbrev pub refusal_of : Refusal → Printed
refusal_of (refusal.BatchTooLarge bytes entry) = too_large bytes entry
refusal_of (refusal.BadGroup offset) = bad_group offset
refusal_of (refusal.Fork at) = printed (codes "Fork") ((codes "at", count_json at) ∷ [])
refusal_of (refusal.Unfit entry) = printed (codes "Unfit") ((codes "entry", count_json entry) ∷ [])

-- a number that it tells is one of JSON
abbrev pub CountsFit : Refusal → Type 0
CountsFit (refusal.BatchTooLarge bytes entry) = bytes < 2 ^ 63
CountsFit (refusal.BadGroup offset) = offset < 2 ^ 63
CountsFit (refusal.Fork at) = at < 2 ^ 63
CountsFit (refusal.Unfit entry) = entry < 2 ^ 63

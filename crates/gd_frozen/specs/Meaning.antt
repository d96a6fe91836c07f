-- Frozen readings of the code, as the definitions have them.
use Rattle.std.specs.Prelude.{◌≡◌, ℕ, List, map, Option, option_map, Result, Err}
use Rattle.gd_grammar.specs.Mark.{Mark}
use Rattle.gd_tree.specs.Trees.{tree_lists_of}
use Rattle.gd_bytes.specs.Frozen as defined
use Rattle.gd_bytes.specs.Frozen.{IterAt, Frame, Scan, by_guid, is_root, by_links, Body, scanning, building, printing, Frozen, IsBadFrozenAt}
use Rattle.gd_iter_core.specs.declared.turn.FrozenIter.{FrozenIter}
use Rattle.gd_frozen.specs.declared.frozen.RowAt.{RowAt}
use Rattle.gd_frozen.specs.declared.frozen.FrozenFrame.{FrozenFrame}
use Rattle.gd_frozen.specs.declared.frozen.FrozenScan.{FrozenScan}
use Rattle.gd_frozen.specs.declared.frozen.Walk.{Walk}
use Rattle.gd_frozen.specs.declared.frozen.Walk.TheVariants as walk
use Rattle.gd_frozen.specs.declared.frozen.FrozenBody.{FrozenBody}
use Rattle.gd_frozen.specs.declared.frozen.FrozenBody.TheVariants as body
use Rattle.gd_frozen.specs.declared.frozen.FrozenReading.{FrozenReading}
use Rattle.gd_frozen.specs.Pieces.{trees_in}
use Rattle.gd_frozen.specs.declared.stop.FrozenFault.{FrozenFault}
use Rattle.gd_frozen.specs.declared.stop.FrozenFault.TheVariants as fault

abbrev pub row_of : RowAt → Mark
row_of r = record { object = r.object; keys = r.keys }

abbrev pub iter_of : FrozenIter → IterAt
iter_of i = record { place = i.place; accepted = i.accepted }

abbrev pub frame_of : FrozenFrame → Frame
frame_of f = record { place = f.place; iter = iter_of f.iter; lists = tree_lists_of (map trees_in f.lists.items) }

abbrev pub scan_of : FrozenScan → Scan
scan_of s = record { iter = iter_of s.iter; weight = s.weight; frames = map frame_of s.frames.items }

abbrev pub walk_of : Walk → defined.Walk
walk_of walk.Guid = by_guid
walk_of walk.Root = is_root
walk_of (walk.Links ks) = by_links ks.items

abbrev pub body_of : FrozenBody → Body
body_of (body.Scan s) = scanning (scan_of s)
body_of (body.Build w ts s) = building w (trees_in ts) (scan_of s)
body_of (body.Print n ts ws) = printing n (trees_in ts) (map walk_of ws.items)

-- a frozen reading as the definitions have it
abbrev pub reading_of : FrozenReading → Frozen
reading_of f = record { dateline = f.dateline; after = option_map row_of f.after; rows = map row_of f.rows.items; body = body_of f.body }

-- bytes are refused where they are the text of no frozen reading, with how many of them begin one; of memory nothing is said
abbrev pub IsFrozenCause : List ℕ → FrozenFault → Type 0
IsFrozenCause bytes (fault.BadFrozen offset) = IsBadFrozenAt bytes offset
IsFrozenCause bytes fault.Memory = Unit {0}

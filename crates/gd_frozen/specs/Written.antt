-- What the code writes of the parts of a frozen reading.
use Rattle.std.specs.Prelude.{ℕ, List, [], ◌∷◌, ◌++◌, flat_map, Option, Some, None, codes, decimal}
use Rattle.gd_grammar.specs.Mark.{place_text}
use Rattle.gd_bytes.specs.Frozen.{trees_text}
use Rattle.gd_iter_core.specs.declared.turn.FrozenIter.{FrozenIter}
use Rattle.gd_frozen.specs.declared.frozen.RowAt.{RowAt}
use Rattle.gd_frozen.specs.declared.frozen.FrozenFrame.{FrozenFrame}
use Rattle.gd_frozen.specs.declared.frozen.FrozenScan.{FrozenScan}
use Rattle.gd_frozen.specs.declared.frozen.Walk.{Walk}
use Rattle.gd_frozen.specs.declared.frozen.Walk.TheVariants as walk
use Rattle.gd_frozen.specs.declared.frozen.FrozenBody.{FrozenBody}
use Rattle.gd_frozen.specs.declared.frozen.FrozenBody.TheVariants as body
use Rattle.gd_frozen.specs.declared.frozen.FrozenReading.{FrozenReading}
use Rattle.gd_frozen.specs.declared.tree.Piece.{Piece}
use Rattle.gd_frozen.specs.Flatly.{flat_items, flat_accepted}
use Rattle.gd_frozen.specs.Pieces.{trees_in}

abbrev pub row_written : RowAt → List ℕ
row_written r = decimal r.object ++ flat_map (λ k. codes "," ++ place_text k) r.keys

abbrev pub after_written : Option RowAt → List ℕ
after_written None = codes "-"
after_written (Some r) = codes "(" ++ (row_written r ++ codes ")")

abbrev pub iter_written : FrozenIter → List ℕ
iter_written i = decimal i.place ++ flat_accepted i.accepted

abbrev pub trees_written : List Piece → List ℕ
trees_written ps = trees_text (trees_in ps)

abbrev pub frame_written : FrozenFrame → List ℕ
frame_written f = decimal f.place ++ (codes "," ++ (iter_written f.iter ++ (codes ",(" ++ (flat_items (codes ",") trees_written f.lists.items ++ codes ")"))))

abbrev pub scan_written : FrozenScan → List ℕ
scan_written s = codes "[" ++ (iter_written s.iter ++ (codes "," ++ (decimal s.weight ++ (flat_map (λ f. codes ";" ++ frame_written f) s.frames.items ++ codes "]"))))

abbrev pub walk_written : Walk → List ℕ
walk_written walk.Guid = codes "g"
walk_written walk.Root = codes "/"
walk_written (walk.Links ks) = flat_items (codes ",") decimal ks.items

abbrev pub body_written : FrozenBody → List ℕ
body_written (body.Scan s) = codes "s" ++ scan_written s
body_written (body.Build w ts s) = codes "b" ++ (decimal w ++ (codes ":" ++ (trees_written ts ++ (codes ":" ++ scan_written s))))
body_written (body.Print n ts ws) = codes "p" ++ (decimal n ++ (codes ":" ++ (trees_written ts ++ (codes ":[" ++ (flat_items (codes ";") walk_written ws.items ++ codes "]")))))

abbrev pub reading_written : FrozenReading → List ℕ
reading_written f = codes "f1:" ++ (decimal f.dateline ++ (codes ":" ++ (after_written f.after ++ (codes ":[" ++ (flat_items (codes ";") row_written f.rows.items ++ (codes "]:" ++ body_written f.body))))))

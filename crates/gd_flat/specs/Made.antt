-- What pieces have made so far, as the grammar has it.
use Rattle.std.specs.Prelude.{ℕ, List, map, reverse, Option, Some, None}
use Rattle.gd_tree.specs.Trees as defs
use Rattle.gd_trees.specs.View.{view, trees_view}
use Rattle.gd_frozen.specs.Pieces as pieces
use Rattle.gd_flat.specs.declared.growing.Last.{Last}
use Rattle.gd_flat.specs.declared.growing.Opened.{Opened}
use Rattle.gd_flat.specs.declared.growing.Growing.{Growing}

-- the last tree of a list, so far
abbrev pub last_of : Option Last → Option (ℕ × List defs.Trees)
last_of None = None
last_of (Some l) = Some (l.place, map trees_view l.lists.items)

-- a list that is open
abbrev pub open_of : Opened → pieces.Open
open_of o = record { done = map view o.done.items; place = o.last.place; lists = map trees_view o.last.lists.items }

-- what pieces have made
abbrev pub growing_of : Growing → pieces.Growing
growing_of g = record { outer = map open_of (reverse g.outer.items); done = map view g.done.items; last = last_of g.last }

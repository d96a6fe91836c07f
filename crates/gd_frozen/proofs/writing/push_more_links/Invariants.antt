use Rattle.std.proofs.Common.{◌≡◌, ◌++◌, drop, flat_map}
use Rattle.std.specs.Prelude.{codes, decimal, string_bytes}
use Rattle.gd_grammar.specs.Mark.{place_text}
use Rattle.gd_frozen.specs.Written.{row_written, trees_written, frame_written, walk_written}
use Rattle.gd_frozen.proofs.writing.push_more_links.Given as goal

abbrev pub invariant-loop-link : goal.invariant-loop-link
invariant-loop-link l = string_bytes l.out ++ flat_map (λ x. codes "," ++ decimal x) (drop l.link-index l.links) ≡ string_bytes l.fn.out ++ flat_map (λ x. codes "," ++ decimal x) l.links

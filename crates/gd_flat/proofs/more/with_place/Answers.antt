use Rattle.std.proofs.Common.{◌≡◌, ◌∙◌, ◌++◌, ◌∷◌, [], ap, arith}
use Rattle.std.proofs.lemmas.Grind.{common_steps}
use Rattle.gd_frozen.specs.declared.tree.Piece.TheVariants as piece
use Rattle.gd_frozen.specs.Pieces.{trees_in}
use Rattle.gd_flat.proofs.Leafed.{grown_same, grown_flat}
use Rattle.gd_flat.proofs.more.with_place.Goals as goal

pub of-requires : goal.of-requires
of-requires c =
    let all : c.loop-piece.pieces.items ≡ c.args.trees.now = grind (arith, common_steps) in
    let is : c.push-2.new.self.items ≡ c.args.trees.now ++ piece.Place c.args.place ∷ [] = c.in_ok-push-2.ensures.items ∙ ap (λ l. l ++ piece.Place c.args.place ∷ []) all in
    grown_flat c.args.trees.now c.push-2.new.self.items c.args.place c.pieces-piece-items.ensures.flat is

pub returns : goal.returns
returns c =
    let all : c.loop-piece.pieces.items ≡ c.args.trees.now = grind (arith, common_steps) in
    let is : c.push-2.new.self.items ≡ c.args.trees.now ++ piece.Place c.args.place ∷ [] = c.in_ok-push-2.ensures.items ∙ ap (λ l. l ++ piece.Place c.args.place ∷ []) all in
    ap trees_in c.of.ensures ∙ grown_same c.args.trees.now c.push-2.new.self.items c.args.place c.pieces-piece-items.ensures.flat is

use Rattle.gd_shape.proofs.shape.Shape.look.Goals as goal

pub returns-in-IdOf-clause-still : goal.returns-in-IdOf-clause-still
returns-in-IdOf-clause-still g c = λ old. record { known = c.find_id.ensures.known old.known; listed = old.listed; counted = old.counted; first = old.first; few = old.few }

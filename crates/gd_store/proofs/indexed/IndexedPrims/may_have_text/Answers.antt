use Rattle.std.proofs.Common.{◌≡◌, ◌∙◌, List, false, subst, sym}
use Rattle.std.specs.List.{list_any}
use Rattle.gd_prim.specs.declared.Primitive.{Primitive}
use Rattle.gd_prim.specs.Live.{is_text}
use Rattle.gd_store.proofs.Short.{no_long_text}
use Rattle.gd_store.proofs.indexed.IndexedPrims.may_have_text.Goals as goal

pub returns-clause-none : goal.returns-clause-none
returns-clause-none c long =
    subst (λ (prims : List Primitive). list_any (λ p. is_text c.args.text.now p.value) prims ≡ false) c.self.view_is
    (no_long_text c.args.text.now c.self.inside.prims (sym c.fits_text.ensures.same ∙ long) c.self.invariant.short)

use Rattle.std.proofs.Common.{◌≡◌, List, false, subst}
use Rattle.std.specs.List.{list_any}
use Rattle.gd_prim.specs.declared.Batch.{Batch}
use Rattle.gd_prim.specs.History.{prims_of}
use Rattle.gd_prim.specs.Live.{is_text}
use Rattle.gd_store.proofs.Within.{none_below}
use Rattle.gd_store.proofs.view.View.may_have_text.Goals as goal

pub returns-clause-none : goal.returns-clause-none
returns-clause-none c long =
    subst (λ (bs : List Batch). list_any (λ p. is_text c.args.text.now p.value) (prims_of bs) ≡ false) c.self.view_is
    (none_below (λ p. is_text c.args.text.now p.value) c.self.inside.dateline c.self.inside.store.now (c.may_have_text.ensures.none long))

use Rattle.std.proofs.Common.{◌<◌, sym, subst, length}
use Rattle.gd_prim.specs.declared.End.TheVariants.{Left, Right, Typ, Scope}
use Rattle.gd_linkage.specs.Linkage.{LinkageValue, list_of}
use Rattle.gd_linkage.proofs.linkage.Linkage.retract.Goals as goal

pub take_back-requires : goal.take_back-requires
take_back-requires c = λ x is. subst (λ (v : LinkageValue). 0 < length (list_of Left x v).ids) (sym c.self.view_is) (c.requires Left x is)

pub take_back-requires-2 : goal.take_back-requires-2
take_back-requires-2 c = λ x is. subst (λ (v : LinkageValue). 0 < length (list_of Right x v).ids) (sym c.self.view_is) (c.requires Right x is)

pub take_back-requires-3 : goal.take_back-requires-3
take_back-requires-3 c = λ x is. subst (λ (v : LinkageValue). 0 < length (list_of Typ x v).ids) (sym c.self.view_is) (c.requires Typ x is)

pub take_back-requires-4 : goal.take_back-requires-4
take_back-requires-4 c = λ x is. subst (λ (v : LinkageValue). 0 < length (list_of Scope x v).ids) (sym c.self.view_is) (c.requires Scope x is)

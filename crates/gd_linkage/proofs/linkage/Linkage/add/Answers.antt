use Rattle.std.proofs.Common.{◌<◌, sym, subst}
use Rattle.gd_prim.specs.declared.End.TheVariants.{Left, Right, Typ, Scope}
use Rattle.gd_postings.specs.Postings.{IsAbove}
use Rattle.gd_linkage.specs.Linkage.{LinkageValue, list_of}
use Rattle.gd_linkage.proofs.linkage.Linkage.add.Goals as goal

pub enter-requires-clause-room : goal.enter-requires-clause-room
enter-requires-clause-room c = λ x is. subst (λ (v : LinkageValue). 0 < (list_of Left x v).spare) (sym c.self.view_is) (c.requires.room Left x is)

pub enter-requires-clause-above : goal.enter-requires-clause-above
enter-requires-clause-above c = λ x is. subst (λ (v : LinkageValue). IsAbove (list_of Left x v).ids c.args.id) (sym c.self.view_is) (c.requires.above Left x is)

pub enter-requires-2-clause-room : goal.enter-requires-2-clause-room
enter-requires-2-clause-room c = λ x is. subst (λ (v : LinkageValue). 0 < (list_of Right x v).spare) (sym c.self.view_is) (c.requires.room Right x is)

pub enter-requires-2-clause-above : goal.enter-requires-2-clause-above
enter-requires-2-clause-above c = λ x is. subst (λ (v : LinkageValue). IsAbove (list_of Right x v).ids c.args.id) (sym c.self.view_is) (c.requires.above Right x is)

pub enter-requires-3-clause-room : goal.enter-requires-3-clause-room
enter-requires-3-clause-room c = λ x is. subst (λ (v : LinkageValue). 0 < (list_of Typ x v).spare) (sym c.self.view_is) (c.requires.room Typ x is)

pub enter-requires-3-clause-above : goal.enter-requires-3-clause-above
enter-requires-3-clause-above c = λ x is. subst (λ (v : LinkageValue). IsAbove (list_of Typ x v).ids c.args.id) (sym c.self.view_is) (c.requires.above Typ x is)

pub enter-requires-4-clause-room : goal.enter-requires-4-clause-room
enter-requires-4-clause-room c = λ x is. subst (λ (v : LinkageValue). 0 < (list_of Scope x v).spare) (sym c.self.view_is) (c.requires.room Scope x is)

pub enter-requires-4-clause-above : goal.enter-requires-4-clause-above
enter-requires-4-clause-above c = λ x is. subst (λ (v : LinkageValue). IsAbove (list_of Scope x v).ids c.args.id) (sym c.self.view_is) (c.requires.above Scope x is)

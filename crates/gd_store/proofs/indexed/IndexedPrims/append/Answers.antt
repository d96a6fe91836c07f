use Rattle.std.proofs.Common.{◌∙◌, ap, sym}
use Rattle.gd_store.proofs.Entered.{joined_enters, whole_indexed}
use Rattle.gd_store.specs.Short.{are_short}
use Rattle.gd_store.proofs.Short.{short_joined}
use Rattle.gd_store.proofs.indexed.IndexedPrims.append.Goals as goal

pub enter_all-requires-clause-entered : goal.enter_all-requires-clause-entered
enter_all-requires-clause-entered c =
    joined_enters c.as_slice.result.now c.self.inside.prims c.args.self.now c.args.more (c.as_slice.ensures ∙ c.in_ok-append.ensures.ok) c.self.view_is c.self.invariant.entered c.requires.entered

pub invariant_of-self-in_default : goal.invariant_of-self-in_default
invariant_of-self-in_default c =
    whole_indexed c.enter_all.new.self c.append.new.self c.as_slice.result.now c.as_slice.ensures
    (joined_enters c.append.new.self c.self.inside.prims c.args.self.now c.args.more c.in_ok-append.ensures.ok c.self.view_is c.self.invariant.entered c.requires.entered)
    (ap are_short c.in_ok-append.ensures.ok ∙ short_joined c.self.inside.prims c.args.more c.self.invariant.short (ap are_short (sym c.as_slice-texts.ensures) ∙ c.see_all_short.ensures))
    c.in_default.ensures.ok

use Rattle.std.proofs.Common.{◌<◌, ap, sym, subst, length}
use Rattle.std.specs.Option.{option_copied}
use Rattle.gd_keys.specs.Keys.{KeysValue, key_list, object_list}
use Rattle.gd_keys.proofs.keys.Keys.retract.Goals as goal

pub take_back-requires : goal.take_back-requires
take_back-requires c = λ o is. subst (λ (v : KeysValue). 0 < length (object_list v o).ids) (sym c.self.view_is) (c.requires.some_objects o is)

pub take_back-requires-in-Some : goal.take_back-requires-in-Some
take_back-requires-in-Some c = λ n is.
    subst (λ (v : KeysValue). 0 < length (key_list v n c.in-Some.key.now).ids) (sym c.self.view_is)
    (c.requires.some_keys n is c.in-Some.key.now (ap option_copied c.in-Some.is))

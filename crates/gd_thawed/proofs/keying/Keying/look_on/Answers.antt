use Rattle.std.proofs.Common.{◌≡◌, refl, rules, length, get_or}
use Rattle.gd_prim.specs.History.{prims_of}
use Rattle.gd_thawed.proofs.Keyed.{keys_more, keys_on}
use Rattle.gd_thawed.proofs.keying.Keying.look_on.Goals as goal

pub returns-in_ok-push-in-Some-clause-has : goal.returns-in_ok-push-in-Some-clause-has
returns-in_ok-push-in-Some-clause-has g c =
    let s = c.index-key.result.now in
    let at : s ≡ get_or c.args.asked.now.sort.items (length c.args.self.now.keys.items) s = search rules in
    keys_more (prims_of c.args.view.now) c.args.asked.now.sort.items c.args.self.now (record { object = c.args.self.now.object; keys = c.push.new.self; next = 0 }) s c.in-Some.place c.in_ok-key_at-in-Some.field-0 c.requires.has c.requires.some at
    (search rules) (search rules) refl (search rules) refl

pub returns-in-None-clause-has : goal.returns-in-None-clause-has
returns-in-None-clause-has g c =
    let s = c.index-key.result.now in
    let at : s ≡ get_or c.args.asked.now.sort.items (length c.args.self.now.keys.items) s = search rules in
    keys_on (prims_of c.args.view.now) c.args.asked.now.sort.items c.args.self.now (record { object = c.args.self.now.object; keys = c.args.self.now.keys; next = c.place_of.new.next }) s c.requires.has c.requires.some at
    refl refl (search rules)

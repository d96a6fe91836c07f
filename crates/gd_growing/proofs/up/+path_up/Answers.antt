use Rattle.std.proofs.Common.{◌≡◌, ℕ, List, ◌++◌, ◌-◌, IfOk, option_map, String, Global, codes, string_bytes, rules, sym, ap, ◌∙◌}
use Rattle.std.proofs.lemmas.Result.{IfOk-weaker}
use Rattle.gd_defs.specs.Ids as defined
use Rattle.gd_growing.specs.State.{so_far}
use Rattle.gd_growing.proofs.Naming.{path_unkeyed, path_on}
use Rattle.gd_growing.proofs.up.+path_up.Goals as goal

pub returns-in_default-key_of : goal.returns-in_default-key_of
returns-in_default-key_of t c =
    sym (path_unkeyed (so_far c.args.growing.now) c.args.levels c.args.object c.in-Some.link (string_bytes c.args.text) (cc) c.if-levels-eq0.false (sym c.in-Some.ensures) (sym c.in_default-key_of.ensures))

pub returns : goal.returns
returns t c =
    let prims = so_far c.args.growing.now in
    let key = c.in-Some-key_of.key.now in
    let namespace = c.in-Some-key_of.namespace in
    let written = c.in_ok-path.ensures ∙ ap (λ text. codes "/" ++ key ++ text) c.as_str.ensures.value in
    let same = ap (defined.path_up prims (c.args.levels - 1) namespace) written
    ∙ sym (path_on prims c.args.levels c.args.object c.in-Some.link (string_bytes c.args.text) key namespace (cc) c.if-levels-eq0.false (sym c.in-Some.ensures) (sym c.in-Some-key_of.ensures)) in
    let above : IfOk c.path_up.result (λ path. option_map {T = String Global} {U = List ℕ} (λ p. string_bytes p) path ≡ defined.path_up prims (c.args.levels - 1) namespace (string_bytes c.in_ok-path.path)) = search rules in
    IfOk-weaker c.path_up.result _ _ (λ path is. is ∙ same) above

use Rattle.std.proofs.Common.{◌≡◌, ℕ, List, option_map, string_bytes, sym, ap, ◌∙◌, subst, String, Global}
use Rattle.std.proofs.lemmas.Result.{IfOk-weaker}
use Rattle.gd_defs.specs.Ids as defined
use Rattle.gd_growing.specs.State.{so_far}
use Rattle.gd_growing.proofs.Naming.{id_text_path, id_text_guid}
use Rattle.gd_growing.proofs.up.id_text.Goals as goal

pub returns-in-Some : goal.returns-in-Some
returns-in-Some c =
    let prims = so_far c.args.growing.now in
    let found = subst (λ (t : List ℕ). option_map {T = String Global} {U = List ℕ} (λ p. string_bytes p) c.in_ok-path.field-0 ≡ defined.path_up prims 16 c.args.object t) c.new.ensures.bytes c.in_ok-path.ensures in
    let path = sym found ∙ ap (option_map {T = String Global} {U = List ℕ} (λ p. string_bytes p)) c.in-Some.is in
    c.new-in-Some.ensures ∙ id_text_path prims c.args.object (string_bytes c.in-Some.path) (cc) path

pub returns-in-None : goal.returns-in-None
returns-in-None c =
    let prims = so_far c.args.growing.now in
    let found = subst (λ (t : List ℕ). option_map {T = String Global} {U = List ℕ} (λ p. string_bytes p) c.in_ok-path.field-0 ≡ defined.path_up prims 16 c.args.object t) c.new.ensures.bytes c.in_ok-path.ensures in
    let none = sym found ∙ ap (option_map {T = String Global} {U = List ℕ} (λ p. string_bytes p)) c.in-None.is in
    let same = id_text_guid prims c.args.object (cc) none in
    IfOk-weaker c.guid.result _ _ (λ text is. is ∙ same) c.guid.ensures

-- What a member does and what a part prints, one level at a time.
use Rattle.std.proofs.Common.{rules, ◌≡◌, ℕ, List, Vec, Global, Bor, sym, ap, ◌∙◌}
use Rattle.gd_prim.specs.declared.Primitive.{Primitive}
use Rattle.gd_tree.specs.Json as tree
use Rattle.gd_json.specs.View.{view, members_view}
use Rattle.gd_json.specs.declared.value.Json.{Json, Object}
use Rattle.gd_json.proofs.Parts.{view-Object}
use Rattle.gd_carry.specs.Printed.{printed_view, fields_view}
use Rattle.gd_carry.specs.declared.print.Printed.{Printed, Form, the_lemmas}

pub form_view : (final : List Primitive) (v : Vec (Bor (List ℕ) × Printed) Global) → printed_view final (Form v) ≡ tree.object (fields_view final v.items)
form_view final v = search (rules, the_lemmas)

pub form_printed : (final : List Primitive) (v : Vec (Bor (List ℕ) × Printed) Global) (x : Vec (List ℕ × Json) Global) → members_view x.items ≡ fields_view final v.items → view (Object x) ≡ printed_view final (Form v)
form_printed final v x same = view-Object x ∙ ap tree.object same ∙ sym (form_view final v)

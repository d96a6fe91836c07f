-- A nested create, step by step.
use Rattle.std.proofs.Common.{◌≡◌, ℕ, List, [], Bool, Vec, Global, Bor, Result, Ok, Err, sym, ap, ◌∙◌}
use Rattle.gd_grammar.specs.Chain.{◌>>=◌}
use Rattle.gd_prim.specs.declared.Primitive.{Primitive}
use Rattle.gd_tree.specs.Json as tree
use Rattle.gd_defs.specs.Change.{CreateWord}
use Rattle.gd_defs.specs.Property.{Property}
use Rattle.gd_defs.specs.Write.Links.{ChangeFault, Stamp, Done, inserted}
use Rattle.gd_defs.specs.Write.Parts as parts
use Rattle.gd_defs.specs.Write.Carried as defined
use Rattle.gd_defs.specs.Write.Carried.{Made}
use Rattle.gd_carry.specs.Printed.{printed_view, fields_view}
use Rattle.gd_carry.specs.declared.print.Printed.{Printed, Form}
use Rattle.gd_carry.proofs.Nested.{on, same_members}
use Rattle.gd_carry.proofs.Views.{form_view}

-- where its object is found
found : (s : Stamp) (path : List (List ℕ)) (prims then : List Primitive) (p : Property) (w : CreateWord) (ms : parts.Members) (o : defined.Subject) (n : ℕ) (e : Bool) → defined.subject_of s path prims w ms ≡ Ok (on n e then)
    → defined.carried_item s path prims o (parts.nested p w ms) ≡ (defined.carried s path then (on n e []) ms >>= λ r. inserted s path r.0 p o.object (parts.to_object n) >>= λ d. Ok (d.0, λ final. tree.object (r.1 final)))
found s path prims then p w ms o n e is =
    ap (λ (x : Result defined.Subject ChangeFault). x >>= λ m. defined.carried s path m.prims m ms >>= λ r. inserted s path r.0 p o.object (parts.to_object m.object) >>= λ d. Ok (d.0, λ final. tree.object (r.1 final))) is
    ∙ ap (λ (x : Result (Made tree.Members) ChangeFault). x >>= λ r. inserted s path r.0 p o.object (parts.to_object n) >>= λ d. Ok (d.0, λ final. tree.object (r.1 final))) (same_members s path then then [] n e ms)

pub nested_done : (s : Stamp) (path : List (List ℕ)) (prims then mid now : List Primitive) (p : Property) (w : CreateWord) (ms : parts.Members) (o : defined.Subject) (n : ℕ) (e : Bool) (fs : Vec (Bor (List ℕ) × Printed) Global) (a : List ℕ)
    → defined.subject_of s path prims w ms ≡ Ok (on n e then) → defined.carried s path then (on n e []) ms ≡ Ok (mid, λ final. fields_view final fs.items) → inserted s path mid p o.object (parts.to_object n) ≡ Ok (now, a)
    → defined.carried_item s path prims o (parts.nested p w ms) ≡ Ok (now, λ final. printed_view final (Form fs))
nested_done s path prims then mid now p w ms o n e fs a is made linked =
    found s path prims then p w ms o n e is
    ∙ ap (λ (x : Result (Made tree.Members) ChangeFault). x >>= λ r. inserted s path r.0 p o.object (parts.to_object n) >>= λ d. Ok (d.0, λ final. tree.object (r.1 final))) made
    ∙ ap (λ (x : Result Done ChangeFault). x >>= λ d. Ok (d.0, λ final. tree.object (fields_view final fs.items))) linked
    ∙ (λ i. Ok (now, λ final. sym (form_view final fs) i))

pub nested_unmade : (s : Stamp) (path : List (List ℕ)) (prims then : List Primitive) (p : Property) (w : CreateWord) (ms : parts.Members) (o : defined.Subject) (n : ℕ) (e : Bool) (f : ChangeFault)
    → defined.subject_of s path prims w ms ≡ Ok (on n e then) → defined.carried s path then (on n e []) ms ≡ Err f → defined.carried_item s path prims o (parts.nested p w ms) ≡ Err f
nested_unmade s path prims then p w ms o n e f is refused =
    found s path prims then p w ms o n e is
    ∙ ap (λ (x : Result (Made tree.Members) ChangeFault). x >>= λ r. inserted s path r.0 p o.object (parts.to_object n) >>= λ d. Ok (d.0, λ final. tree.object (r.1 final))) refused

-- where its link is refused
pub nested_unlinked : (s : Stamp) (path : List (List ℕ)) (prims then mid : List Primitive) (p : Property) (w : CreateWord) (ms : parts.Members) (o : defined.Subject) (n : ℕ) (e : Bool) (fs : Vec (Bor (List ℕ) × Printed) Global) (f : ChangeFault)
    → defined.subject_of s path prims w ms ≡ Ok (on n e then) → defined.carried s path then (on n e []) ms ≡ Ok (mid, λ final. fields_view final fs.items) → inserted s path mid p o.object (parts.to_object n) ≡ Err f
    → defined.carried_item s path prims o (parts.nested p w ms) ≡ Err f
nested_unlinked s path prims then mid p w ms o n e fs f is made refused =
    found s path prims then p w ms o n e is
    ∙ ap (λ (x : Result (Made tree.Members) ChangeFault). x >>= λ r. inserted s path r.0 p o.object (parts.to_object n) >>= λ d. Ok (d.0, λ final. tree.object (r.1 final))) made
    ∙ ap (λ (x : Result Done ChangeFault). x >>= λ d. Ok (d.0, λ final. tree.object (fields_view final fs.items))) refused

-- A write carried out whole.
use Rattle.std.proofs.Common.{◌≡◌, ◌≢◌, ◌<◌, ◌+◌, ℕ, List, [], ◌∷◌, ◌++◌, Bool, Option, Vec, Global, Result, Ok, Err, refl, sym, ap, ◌∙◌, map, drop, length, get_or}
use Rattle.gd_grammar.specs.Chain.{◌>>=◌, map_err}
use Rattle.gd_prim.specs.declared.Primitive.{Primitive}
use Rattle.gd_prim.specs.declared.Batch.{Batch}
use Rattle.gd_tree.specs.Json as tree
use Rattle.gd_defs.specs.Asked.{Unknown}
use Rattle.gd_defs.specs.Change.{Change}
use Rattle.gd_defs.specs.Reply.{first_item}
use Rattle.gd_defs.specs.Write as write
use Rattle.gd_defs.specs.Write.{WriteSet, WriteRequest, Resolved, exec, fitting, result_of}
use Rattle.gd_defs.specs.Write.Links.{ChangeFault, Stamp, unknown}
use Rattle.gd_defs.specs.Write.Carried as defined
use Rattle.gd_defs.specs.Write.Carried.{Made}
use Rattle.gd_intent.specs.Seen.{resolved_view}
use Rattle.gd_intent.specs.Walk.{intent_of}
use Rattle.gd_intent.specs.declared.intent.ResolvedChange.{ResolvedChange}
use Rattle.gd_carry.specs.Printed.{Field, fields_view, many_view, printed_view}
use Rattle.gd_carry.specs.declared.print.Printed.{Printed, Form}
use Rattle.gd_compile.specs.declared.fault.Unknown.{Unknown as Unmeant}
use Rattle.gd_compile.specs.declared.fault.Unknown.TheVariants as reason
use Rattle.gd_compile.specs.Fault.{unknown_of}
use Rattle.gd_carry.specs.declared.fault.ChangeFault.TheVariants as fault
use Rattle.gd_carry.specs.Outcome.{fault_of, from_unknown, many_led}
use Rattle.gd_carry.specs.Exec.{carried_out, done_of, written}
use Rattle.gd_carry.proofs.Nested.{on, same_members}
use Rattle.gd_carry.proofs.Views.{form_view}
use Rattle.gd_carry.proofs.Walks.{item_added, left_at}

-- the root is carried out on its object
pub rooted : (s : Stamp) (prims then : List Primitive) (r : Resolved) (n : ℕ) (e : Bool) → write.root_subject s r.path prims r.root r.on r.members ≡ Ok (on n e then)
    → write.carried_root s prims r ≡ defined.carried s r.path then (on n e []) r.members
rooted s prims then r n e is =
    ap (λ (x : Result defined.Subject ChangeFault). x >>= λ o. defined.carried s r.path o.prims o r.members) is
    ∙ same_members s r.path then then [] n e r.members

-- or its object is refused
pub unrooted : (s : Stamp) (prims : List Primitive) (r : Resolved) (f : ChangeFault) → write.root_subject s r.path prims r.root r.on r.members ≡ Err f → write.carried_root s prims r ≡ Err f
unrooted s prims r f is = ap (λ (x : Result defined.Subject ChangeFault). x >>= λ o. defined.carried s r.path o.prims o r.members) is

-- ---- several changes

-- the changes that are left begin with the one that stands there
pub changes_left : (cs : List ResolvedChange) (i : ℕ) (c : ResolvedChange) → i < length cs → c ≡ get_or cs i c → map resolved_view (drop i cs) ≡ resolved_view c ∷ map resolved_view (drop (i + 1) cs)
changes_left cs i c within is = ap (map resolved_view) (left_at cs i c within is)

-- the first change is carried out, and then the others over what it made
pub change_made : (s : Stamp) (prims now : List Primitive) (r : Resolved) (rs : List Resolved) (fs : Vec (Field Printed) Global) (ps new : List Printed) → write.carried_root s prims r ≡ Ok (now, λ final. fields_view final fs.items) → new ≡ ps ++ Form fs ∷ []
    → (write.carried_all s prims (r ∷ rs) >>= λ d. Ok (many_led ps d)) ≡ (write.carried_all s now rs >>= λ d. Ok (many_led new d))
change_made s prims now r rs fs ps new is added =
    ap (λ (w : Result (Made tree.Members) ChangeFault). (w >>= λ m. write.carried_all s m.0 rs >>= λ d. Ok (d.0, λ final. tree.item (tree.object (m.1 final)) (d.1 final))) >>= λ d. Ok (many_led ps d)) is
    ∙ (λ i. (write.carried_all s now rs >>= λ d. Ok (d.0, λ final. tree.item (sym (form_view final fs) i) (d.1 final))) >>= λ d. Ok (many_led ps d))
    ∙ item_added (Ok (now, λ final. printed_view final (Form fs))) (λ q. write.carried_all s q rs) now ps new (Form fs) refl added

-- or it is refused
pub change_refused : (s : Stamp) (prims : List Primitive) (r : Resolved) (rs : List Resolved) (ps : List Printed) (f : ChangeFault) → write.carried_root s prims r ≡ Err f → (write.carried_all s prims (r ∷ rs) >>= λ d. Ok (many_led ps d)) ≡ Err f
change_refused s prims r rs ps f is =
    ap (λ (w : Result (Made tree.Members) ChangeFault). (w >>= λ m. write.carried_all s m.0 rs >>= λ d. Ok (d.0, λ final. tree.item (tree.object (m.1 final)) (d.1 final))) >>= λ d. Ok (many_led ps d)) is

-- of one change alone the write prints what that prints
pub alone : (c : Change) (js : tree.Items) → first_item js ≡ result_of (write.one_change c) js
alone c tree.no_items = refl
alone c (tree.item j js) = refl

-- ---- the whole write

-- the changes are carried out, and what they made is printed
pub carried_done : (prims start now : List Primitive) (asks : WriteSet) (i : Option ℕ × List Resolved) (moment : ℕ) (ps : List Printed) (b : Batch) (j : tree.Json) → start ≡ prims
    → write.carried_all (record { scope = i.0; moment = moment }) start i.1 ≡ Ok (now, λ final. many_view final ps) → b ≡ record { moment = moment; prims = drop (length prims) now } → j ≡ result_of asks (many_view now ps)
    → carried_out prims asks i moment ≡ Ok (b, j)
carried_done prims start now asks i moment ps b j started is batch printed =
    ap (λ (q : List Primitive). write.carried_all (record { scope = i.0; moment = moment }) q i.1 >>= λ m. Ok (done_of moment prims asks m)) (sym started)
    ∙ ap (λ (x : Result (Made tree.Items) ChangeFault). x >>= λ m. Ok (done_of moment prims asks m)) is
    ∙ (λ k. Ok (sym batch k, sym printed k))

-- or one is refused
pub carried_refused : (prims start : List Primitive) (asks : WriteSet) (i : Option ℕ × List Resolved) (moment : ℕ) (f : ChangeFault) → start ≡ prims
    → write.carried_all (record { scope = i.0; moment = moment }) start i.1 ≡ Err f → carried_out prims asks i moment ≡ Err f
carried_refused prims start asks i moment f started is =
    ap (λ (q : List Primitive). write.carried_all (record { scope = i.0; moment = moment }) q i.1 >>= λ m. Ok (done_of moment prims asks m)) (sym started)
    ∙ ap (λ (x : Result (Made tree.Items) ChangeFault). x >>= λ m. Ok (done_of moment prims asks m)) is

-- the words of a write are looked up, and the rest decides
pub looked_up : (prims : List Primitive) (w : WriteRequest) (moment : ℕ) (i : Option ℕ × List Resolved) → intent_of prims w ≡ Ok i → written prims w moment ≡ carried_out prims w.asks i moment
looked_up prims w moment i is = ap (λ (x : Result (Option ℕ × List Resolved) Unknown). map_err unknown x >>= λ i. carried_out prims w.asks i moment) is

-- or they have no meaning
pub unmeant : (prims : List Primitive) (w : WriteRequest) (moment : ℕ) (u : Unknown) → intent_of prims w ≡ Err u → written prims w moment ≡ Err (unknown u)
unmeant prims w moment u is = ap (λ (x : Result (Option ℕ × List Resolved) Unknown). map_err unknown x >>= λ i. carried_out prims w.asks i moment) is

-- a scope with the changes
abbrev scoped : Option ℕ → List Resolved → Result (Option ℕ × List Resolved) Unknown
scoped s rs = Ok (s, rs)

-- what is done one step after another is done in these steps
in_steps : (a : Result (Option ℕ) Unknown) (b : Result (List Resolved) Unknown) (c : Option ℕ → List Resolved → Result (Made tree.Items) ChangeFault)
    (g : Made tree.Items → Batch × tree.Json) (k : Batch × tree.Json → Result (Batch × tree.Json) ChangeFault)
    → (map_err unknown a >>= λ s. map_err unknown b >>= λ rs. c s rs >>= λ m. k (g m)) ≡ ((map_err unknown (a >>= λ s. b >>= λ rs. scoped s rs) >>= λ i. c i.0 i.1 >>= λ m. Ok (g m)) >>= k)
in_steps (Err e) b c g k = refl
in_steps (Ok s) (Err e) c g k = refl
in_steps (Ok s) (Ok rs) c g k = by (c s rs)
  where
    by : (x : Result (Made tree.Items) ChangeFault) → (x >>= λ m. k (g m)) ≡ ((x >>= λ m. Ok (g m)) >>= k)
    by (Ok m) = refl
    by (Err e) = refl

-- a write is what was written, unless it passes a limit
pub exec_written : (prims : List Primitive) (requests : ℕ) (w : WriteRequest) (moment : ℕ) → exec prims requests w moment ≡ (written prims w moment >>= λ d. fitting prims requests d.0 d.1)
exec_written prims requests w moment = in_steps (write.scope_of prims w.scope) (write.resolved_all prims (write.changes_of w.asks))
    (λ scope rs. write.carried_all (record { scope = scope; moment = moment }) prims rs) (done_of moment prims w.asks) (λ d. fitting prims requests d.0 d.1)

-- a reason that is told is not want of memory, and stays the same
pub told : (e : Unmeant) → from_unknown e ≢ fault.Memory → e ≢ reason.Memory
told (reason.NoSuchId id) known = λ is. cc
told (reason.NoSuchProperty path) known = λ is. cc
told (reason.BadQuery code path) known = λ is. cc
told reason.Memory known = absurd (known refl)

pub same_told : (e : Unmeant) → from_unknown e ≢ fault.Memory → fault_of (from_unknown e) ≡ unknown (unknown_of e)
same_told (reason.NoSuchId id) known = refl
same_told (reason.NoSuchProperty path) known = refl
same_told (reason.BadQuery code path) known = refl
same_told reason.Memory known = absurd (known refl)

-- What entries of a clause put in front of the rest, and how a write's words are looked up.
use Rattle.std.specs.Prelude.{◌≡◌, ◌≢◌, ℕ, List, [], ◌∷◌, ◌++◌, Option, Some, None, Result, Ok, Err, MatchResult, if◌then◌else◌, codes}
use Rattle.gd_grammar.specs.Chain.{◌>>=◌}
use Rattle.gd_prim.specs.declared.Primitive.{Primitive}
use Rattle.gd_defs.specs.Query.{Name, is_computed, bad_lang}
use Rattle.gd_tree.specs.Json.{Json}
use Rattle.gd_defs.specs.Property.{Property, Expects, is_language}
use Rattle.gd_defs.specs.Asked as asked
use Rattle.gd_defs.specs.Change as change
use Rattle.gd_defs.specs.Write as write
use Rattle.gd_defs.specs.Write.Parts as parts
use Rattle.gd_form_laws.specs.SpelledChange.{item_depth}
use Rattle.gd_mql.specs.Entries.{item_view as item_spelled, with_entry as with_spelled}
use Rattle.gd_mql.specs.declared.change.Entry.{Entry as SpelledEntry}
use Rattle.gd_mql.specs.declared.change.Entry.TheVariants as spelled
use Rattle.gd_compile.specs.declared.fault.Unknown.{Unknown}
use Rattle.gd_compile.specs.declared.fault.Unknown.TheVariants as fault
use Rattle.gd_compile.specs.Fault.{unknown_of}
use Rattle.gd_intent.specs.declared.intent.Entry.{Entry}
use Rattle.gd_intent.specs.declared.intent.Item.{Item}
use Rattle.gd_intent.specs.Seen.{entry_view, with_entry}

-- members with their words looked up, or why that has no meaning
abbrev pub Outcome : Type 0
Outcome = Result parts.Members asked.Unknown

-- an entry in front of others
abbrev pub put : Entry Item → parts.Members → parts.Members
put e ms = with_entry (entry_view e) ms

-- The call gives the entry that stands in front of the rest of a clause, or the reason why the clause has no meaning, in whose place want of memory may come.
abbrev pub Leads : (change.Members → Outcome) → SpelledEntry → Result (Entry Item) Unknown → Type 0
Leads looked e result = MatchResult result
    (λ done. (ms : change.Members) → looked (with_spelled e ms) ≡ (looked ms >>= λ rest. Ok (put done rest)))
    (λ f. f ≢ fault.Memory → (ms : change.Members) → looked (with_spelled e ms) ≡ Err (unknown_of f))

-- what a member does whose property is looked up at this path
abbrev pub property_item : List Primitive → Option ℕ → Option ℕ → List (List ℕ) → Name → change.Item → Result parts.Item asked.Unknown
property_item prims on context path n i = asked.member_property prims context path n >>= λ p. parts.resolved_item prims on path p i

-- what a member of a clause at this path does
abbrev pub member_item : List Primitive → Option ℕ → Option ℕ → List (List ℕ) → Name → change.Item → Result parts.Item asked.Unknown
member_item prims on context path n i = if is_computed n.word then Ok (parts.identity_item n i) else property_item prims on context (path ++ n.spelled ∷ []) n i

-- a clause whose context type is what its member `type` names, or else this one
abbrev pub clause_resolved : List Primitive → Option ℕ → Option ℕ → List (List ℕ) → change.Members → Outcome
clause_resolved prims on above path ms = asked.context_of prims above (parts.type_text ms) >>= λ c. parts.resolved prims on c path ms

-- so many forms {..} and lists lie one within the other in an entry
abbrev pub entry_depth : SpelledEntry → ℕ
entry_depth (spelled.Member n i) = item_depth (item_spelled i)
entry_depth (spelled.Created w) = 0

-- the existing object of the root, if it names one
abbrev pub root_object : List Primitive → change.Root → Result (Option ℕ) asked.Unknown
root_object prims (change.to_create w) = Ok None
root_object prims (change.existing_object t) = asked.place_named prims t >>= λ o. Ok (Some o)

-- the target that an operand is
abbrev pub operand_target : List Primitive → Expects → List (List ℕ) → Json → Result parts.Target asked.Unknown
operand_target prims e path j = asked.operand_datum prims e path j >>= λ d. Ok (parts.datum_target d)

-- a property in the language that an id names
abbrev pub language_named : List Primitive → List (List ℕ) → Property → List ℕ → Result Property asked.Unknown
language_named prims path p t = asked.place_named prims t >>= λ l. if is_language prims l then Ok (record p { language = Some l }) else asked.bad bad_lang (path ++ codes "lang" ∷ [])

-- a change with its words looked up, where its root has this path
abbrev pub change_resolved : List Primitive → List (List ℕ) → change.Change → Result write.Resolved asked.Unknown
change_resolved prims path c = write.resolved_root prims path c >>= λ r. Ok (record { path = path; root = c.root; on = r.0; members = r.1 })

-- the scope of a write, and its changes with their words looked up
abbrev pub intent_of : List Primitive → write.WriteRequest → Result (Option ℕ × List write.Resolved) asked.Unknown
intent_of prims w = write.scope_of prims w.scope >>= λ s. write.resolved_all prims (write.changes_of w.asks) >>= λ rs. Ok (s, rs)

-- What carrying out a part of a write comes to.
use Rattle.std.specs.Prelude.{◌≡◌, ◌≢◌, ℕ, List, [], ◌∷◌, Bool, true, ◌&&◌, Result, Ok, Err, MatchResult}
use Rattle.gd_grammar.specs.Chain.{◌>>=◌}
use Rattle.gd_prim.specs.declared.Batch.{Batch}
use Rattle.gd_prim.specs.declared.Primitive.{Primitive}
use Rattle.gd_prim.specs.Live.{is_object}
use Rattle.gd_tree.specs.Json as tree
use Rattle.gd_json.specs.View.{view as json_view, members_view as json_members}
use Rattle.gd_json.specs.declared.value.Json.{Json}
use Rattle.gd_defs.specs.Asked as asked
use Rattle.gd_defs.specs.Write as write
use Rattle.gd_defs.specs.Write.Parts as parts
use Rattle.gd_defs.specs.Write.Carried as defined
use Rattle.gd_defs.specs.Write.Links as links
use Rattle.gd_compile.specs.declared.fault.Unknown.{Unknown}
use Rattle.gd_compile.specs.declared.fault.Unknown.TheVariants as unknown
use Rattle.gd_compile.specs.Fault.{code_view}
use Rattle.gd_growing.specs.declared.links.Answer.{Answer}
use Rattle.gd_growing.specs.Seen.{target_view, answer_word}
use Rattle.gd_mql.specs.Changes.{connect_view as word_view}
use Rattle.gd_intent.specs.declared.intent.Connect.{Connect}
use Rattle.gd_intent.specs.Seen.{item_view, entry_view, with_entry}
use Rattle.gd_intent.specs.declared.intent.Entry.{Entry}
use Rattle.gd_intent.specs.declared.intent.Entry.TheVariants as entry
use Rattle.gd_intent.specs.declared.intent.Item.{Item}
use Rattle.gd_carry.specs.Printed.{Field, printed_view, before, many_before}
use Rattle.gd_carry.specs.declared.fault.ChangeFault.{ChangeFault}
use Rattle.gd_carry.specs.declared.fault.ChangeFault.TheVariants as fault
use Rattle.gd_carry.specs.declared.print.Printed.{Printed}
use Rattle.gd_carry.specs.declared.owner.Owner.{Owner}
use Rattle.gd_carry.specs.declared.owner.Owner.TheVariants as owner
use Rattle.gd_carry.specs.declared.subject.Subject.{Subject}

-- the refusal that this is; want of memory is none, and what it is here tells nothing
abbrev pub fault_of : ChangeFault → write.ChangeFault
fault_of (fault.NoSuchId id) = links.unknown (asked.no_such_id id)
fault_of (fault.NoSuchProperty path) = links.unknown (asked.no_such_property path)
fault_of (fault.BadQuery code path) = links.unknown (asked.bad_query (code_view code) path)
fault_of (fault.NotUnique path) = links.not_unique path
fault_of (fault.KeyTaken key holder) = links.key_taken key holder
fault_of (fault.StaleVersion previous successor) = links.stale_version previous successor
fault_of (fault.Full what count) = links.full what count
fault_of fault.Memory = links.not_unique []

-- the same reason among those of a write
abbrev pub from_unknown : Unknown → ChangeFault
from_unknown (unknown.NoSuchId id) = fault.NoSuchId id
from_unknown (unknown.NoSuchProperty path) = fault.NoSuchProperty path
from_unknown (unknown.BadQuery code path) = fault.BadQuery code path
from_unknown unknown.Memory = fault.Memory

-- the object of a clause; what stood before it is told elsewhere
abbrev pub subject_view : Subject → defined.Subject
subject_view s = record { object = s.object; existed = s.existed; prims = [] }

-- The call has made what is expected, seen through `view` at any state at the end, with this list afterwards; or it gives the refusal, in whose place want of memory may come.
abbrev pub Makes : {A B : Type 0} → (List Primitive → A → B) → Result (defined.Made B) write.ChangeFault → List Primitive → Result A ChangeFault → Type 0
Makes view expected now result = MatchResult result (λ a. expected ≡ Ok (now, λ final. view final a)) (λ e. e ≢ fault.Memory → expected ≡ Err (fault_of e))

-- an entry in front of others
abbrev pub put : Entry Item → parts.Members → parts.Members
put e ms = with_entry (entry_view e) ms

-- a printed member in front of what is printed behind it
abbrev pub led : Field Printed → defined.Made tree.Members → defined.Made tree.Members
led f r = (r.0, λ final. tree.member f.0.now (printed_view final f.1) (r.1 final))

-- The call has linked as is expected, with this list afterwards; or it gives the refusal, in whose place want of memory may come.
abbrev pub GivesLink : Result links.Done write.ChangeFault → List Primitive → Result Answer ChangeFault → Type 0
GivesLink expected now result = MatchResult result (λ a. expected ≡ Ok (now, answer_word a)) (λ e. e ≢ fault.Memory → expected ≡ Err (fault_of e))

-- a connect form
abbrev pub connect_view : Connect → parts.Item
connect_view c = parts.connect c.property (word_view c.word) (target_view c.target) c.previous (json_members c.members.now)

-- The call has carried out the entry that stands in front of the rest of a clause, with this list afterwards; or it gives the refusal, in whose place want of memory may come.
abbrev pub Leads : (List Primitive → parts.Members → Result (defined.Made tree.Members) write.ChangeFault) → List Primitive → List Primitive → Entry Item → Result (Field Printed) ChangeFault → Type 0
Leads carried then now e result = MatchResult result
    (λ f. (ms : parts.Members) → carried then (put e ms) ≡ (carried now ms >>= λ r. Ok (led f r)))
    (λ f. f ≢ fault.Memory → (ms : parts.Members) → carried then (put e ms) ≡ Err (fault_of f))

-- printed members in front of what is printed behind them
abbrev pub all_led : List (Field Printed) → defined.Made tree.Members → defined.Made tree.Members
all_led fs r = (r.0, λ final. before final fs (r.1 final))

-- printed items in front of what is printed behind them
abbrev pub many_led : List Printed → defined.Made tree.Items → defined.Made tree.Items
many_led ps r = (r.0, λ final. many_before final ps (r.1 final))

-- an object has the facts of an entry
abbrev pub has_entry : List Primitive → Entry Item → ℕ → Bool
has_entry prims (entry.Member name i) o = defined.has_item prims (item_view i) o
has_entry prims entry.Created o = true

-- an object that has each fact of a clause's own stands at a place
abbrev pub owns : List Primitive → parts.Members → ℕ → Bool
owns prims ms o = is_object prims o && defined.has_own prims ms o

-- whether none, one or several of these objects are there
abbrev pub owner_of : List ℕ → Owner
owner_of [] = owner.Nobody
owner_of (o ∷ []) = owner.One o
owner_of _ = owner.Several

-- The call gives the object of a clause, with this list afterwards; or the refusal, in whose place want of memory may come.
abbrev pub GivesSubject : Result defined.Subject write.ChangeFault → List Primitive → Result Subject ChangeFault → Type 0
GivesSubject expected now result = MatchResult result (λ s. expected ≡ Ok (record { object = s.object; existed = s.existed; prims = now })) (λ e. e ≢ fault.Memory → expected ≡ Err (fault_of e))

-- the call gives the batch and the result, or the refusal, that are expected, or else memory was wanting
abbrev pub GivesChange : Result (Batch × tree.Json) write.ChangeFault → Result (Batch × Json) ChangeFault → Type 0
GivesChange expected result = MatchResult result (λ done. expected ≡ Ok (done.0, json_view done.1)) (λ e. e ≢ fault.Memory → expected ≡ Err (fault_of e))

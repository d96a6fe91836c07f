-- One text is the key of one read.
use Rattle.std.proofs.Common.{◌≡◌, ◌∙◌, sym, ap, subst, refl, ℕ, List, [], ◌∷◌, Bool, true, false, ◌||◌, nat_lt, length, Option, Some, None, Result, Ok, Err, codes}
use Rattle.std.specs.Prelude.{option_map}
use Rattle.std.specs.Str.{is_utf8, bytes_eq}
use Rattle.gd_grammar.specs.Chain.{◌>>=◌, map_err}
use Rattle.gd_grammar.proofs.Steps.{ok_same, not_ok, some_same, either}
use Rattle.gd_tree.specs.Json.{Json, null, boolean, number, text, list, object, Members, no_members, member, compact}
use Rattle.gd_tree.specs.Look.{get, only, member_of}
use Rattle.gd_tree.specs.Bounds.{IsPlain, MembersPlain}
use Rattle.gd_json.specs.declared.from.JsonFault.{JsonFault}
use Rattle.gd_json.specs.Reading.{json_from}
use Rattle.gd_json.proofs.Levels.{json_is_bounded}
use Rattle.gd_defs.specs.Query.{Fault}
use Rattle.gd_defs.specs.Write.{WriteRequest}
use Rattle.gd_runs.specs.Request.{ReadSet, Line, LineFault, read, write, bad_form, bad_line, session_of, read_of, write_of, line_of}
use Rattle.gd_runs.specs.Input.{line_too_long, max_line, as_line, value_line, line_from}
use Rattle.gd_cache.specs.Asked.{read_text, key_of, IsTextOf}
use Rattle.gd_cache.specs.Laws.{KeysTell}
use Rattle.gd_cache.proofs.Compact.{printed_same}

-- ---- what a read line holds

-- an envelope that spells a read, in a plain value that prints it under `read`
record Holds (j : Json) (q : ReadSet) : Type 0 where
  envelope : Json
  there : member_of (codes "read") j ≡ Some envelope
  spells : read_of envelope ≡ Ok q

line_read : (s t : ℕ) (q r : ReadSet) → ◌≡◌ {A = Result Line LineFault} (Ok (read s q)) (Ok (read t r)) → q ≡ r
line_read s t q r is = cc

not_read : {P : Type 0} (s t : ℕ) (w : WriteRequest) (r : ReadSet) → ◌≡◌ {A = Result Line LineFault} (Ok (write s w)) (Ok (read t r)) → P
not_read s t w r is = absurd (cc)

-- what a line that was read spells
of_read : (s t : ℕ) (r : Result ReadSet Fault) (q : ReadSet) → (map_err bad_form r >>= λ r. Ok (read s r)) ≡ Ok (read t q) → r ≡ Ok q
of_read s t (Ok r) q is = ap Ok (line_read s t r q is)
of_read s t (Err f) q is = not_ok _ (read t q) is

not_written : {P : Type 0} (s t : ℕ) (w : Result WriteRequest Fault) (q : ReadSet) → (map_err bad_form w >>= λ w. Ok (write s w)) ≡ Ok (read t q) → P
not_written s t (Ok w) q is = not_read s t w q is
not_written s t (Err f) q is = not_ok _ (read t q) is

line_holds : (j : Json) (t : ℕ) (q : ReadSet) → line_of j ≡ Ok (read t q) → Holds j q
line_holds null t q is = not_ok bad_line (read t q) is
line_holds (boolean b) t q is = not_ok bad_line (read t q) is
line_holds (number n) t q is = not_ok bad_line (read t q) is
line_holds (text x) t q is = not_ok bad_line (read t q) is
line_holds (list js) t q is = not_ok bad_line (read t q) is
line_holds (object ms) t q is =
    by (only (codes "read" ∷ codes "sid" ∷ []) ms || only (codes "sid" ∷ codes "write" ∷ []) ms) (session_of (get (codes "sid") ms)) (get (codes "read") ms) (get (codes "write") ms) refl refl refl refl
  where
    by : (b : Bool) (s : Option ℕ) (r w : Option Json) → (only (codes "read" ∷ codes "sid" ∷ []) ms || only (codes "sid" ∷ codes "write" ∷ []) ms) ≡ b → session_of (get (codes "sid") ms) ≡ s
        → get (codes "read") ms ≡ r → get (codes "write") ms ≡ w → Holds (object ms) q
    by false s r w alone session reads writes = not_ok bad_line (read t q) (rw alone at is)
    by true None r w alone session reads writes = not_ok bad_line (read t q) (rw (alone, session) at is)
    by true (Some s) (Some j) None alone session reads writes = record { envelope = j; there = reads; spells = of_read s t (read_of j) q (rw (alone, session, reads, writes) at is) }
    by true (Some s) None (Some j) alone session reads writes = not_written s t (write_of j) q (rw (alone, session, reads, writes) at is)
    by true (Some s) (Some j) (Some k) alone session reads writes = not_ok bad_line (read t q) (rw (alone, session, reads, writes) at is)
    by true (Some s) None None alone session reads writes = not_ok bad_line (read t q) (rw (alone, session, reads, writes) at is)

-- ---- the bytes of a line

-- bytes are a value that holds a read
record AreOf (bytes : List ℕ) (q : ReadSet) : Type 0 where
  value : Json
  spelled : json_from bytes ≡ Ok value
  holds : Holds value q

named : (r : Result Line LineFault) (t : ℕ) (q : ReadSet) → as_line r ≡ Ok (read t q) → r ≡ Ok (read t q)
named (Ok l) t q is = ap Ok (ok_same l (read t q) is)
named (Err f) t q is = not_ok _ (read t q) is

valued : (bytes : List ℕ) (r : Result Json JsonFault) (t : ℕ) (q : ReadSet) → json_from bytes ≡ r → value_line (λ j. as_line (line_of j)) r ≡ Ok (read t q) → AreOf bytes q
valued bytes (Ok j) t q from is = record { value = j; spelled = from; holds = line_holds j t q (named (line_of j) t q is) }
valued bytes (Err f) t q from is = not_ok _ (read t q) is

are_of : (bytes : List ℕ) (t : ℕ) (q : ReadSet) → line_from bytes ≡ Ok (read t q) → AreOf bytes q
are_of bytes t q is = either (nat_lt max_line (length bytes)) (Err line_too_long) (value_line (λ j. as_line (line_of j)) (json_from bytes)) (Ok (read t q))
    (λ b err. not_ok line_too_long (read t q) err) (λ b value. valued bytes (json_from bytes) t q refl value) is

-- ---- its key

plain_get : (k : List ℕ) (ms : Members) (j : Json) → MembersPlain is_utf8 ms → get k ms ≡ Some j → IsPlain is_utf8 j
plain_get k no_members j plain is = absurd (cc)
plain_get k (member l i ms) j plain is = either (bytes_eq k l) (Some i) (get k ms) (Some j) (λ b same. subst (IsPlain is_utf8) (some_same i j same) plain.0) (λ b rest. plain_get k ms j plain.1 rest) is

plain_member : (v j : Json) → IsPlain is_utf8 v → member_of (codes "read") v ≡ Some j → IsPlain is_utf8 j
plain_member null j plain is = absurd (cc)
plain_member (boolean b) j plain is = absurd (cc)
plain_member (number n) j plain is = absurd (cc)
plain_member (text t) j plain is = absurd (cc)
plain_member (list js) j plain is = absurd (cc)
plain_member (object ms) j plain is = plain_get (codes "read") ms j plain is

-- a plain envelope prints as the key
record Prints (text : List ℕ) (q : ReadSet) : Type 0 where
  envelope : Json
  plain : IsPlain is_utf8 envelope
  spells : read_of envelope ≡ Ok q
  is : compact envelope ≡ text

key_text : (bytes : List ℕ) (j : Json) (t : List ℕ) → json_from bytes ≡ Ok j → key_of bytes ≡ Some t → read_text j ≡ Some t
key_text bytes j t from is = rw from at is

prints : (t : List ℕ) (q : ReadSet) → IsTextOf t q → Prints t q
prints t q key =
    let of = are_of key.bytes key.session q key.asks in
    let bounded = json_is_bounded key.bytes of.value of.spelled in
    let held = of.holds in
    let printed = key_text key.bytes of.value t of.spelled key.key in record {
      envelope = held.envelope;
      plain = plain_member of.value held.envelope bounded.plain held.there;
      spells = held.spells;
      is = some_same (compact held.envelope) t (ap (option_map compact) (sym held.there) ∙ printed);
    }

read_same : (q r : ReadSet) → ◌≡◌ {A = Result ReadSet Fault} (Ok q) (Ok r) → q ≡ r
read_same q r is = cc

-- LAW: one text is the key of one read
pub keys_tell : KeysTell
keys_tell t q r one other =
    let a = prints t q one in
    let b = prints t r other in
    let same = printed_same is_utf8 a.envelope b.envelope a.plain b.plain (a.is ∙ sym b.is) in
    read_same q r (sym a.spells ∙ ap read_of same ∙ b.spells)

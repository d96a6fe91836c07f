-- What a session tells of a reading that is frozen.
use Rattle.std.proofs.Common.{◌≡◌, ℕ, List, codes, Option, Some, None, option_map, refl, sym, ap, subst, ◌∙◌}
use Rattle.std.specs.Prelude.{IfSome}
use Rattle.std.specs.Str.{IsUtf8}
use Rattle.gd_prim.specs.declared.Batch.{Batch}
use Rattle.gd_tree.specs.Json.{text, object, no_members, member}
use Rattle.gd_bytes.specs.Frozen.{spelling}
use Rattle.gd_defs.specs.Lines.{ok_line}
use Rattle.gd_defs.specs.Reply.{within_reply}
use Rattle.gd_runs.specs.Request.{ReadSet, one_query, queries}
use Rattle.gd_runs.specs.Core.{Reading}
use Rattle.gd_held.specs.PassedOn.{FreezesTo}
use Rattle.gd_sessions.specs.Sessions.{FreezesAs}
use Rattle.gd_sessions.proofs.Ascii.{spelling_utf8}

-- the line that tells these bytes at a dateline
abbrev pub told_line : ℕ → ℕ → List ℕ → List ℕ
told_line d k bytes = within_reply d k (ok_line d k (object (member (codes "frozen") (text bytes) no_members)))

same_some : {A : Type 0} (a b : A) → Some a ≡ Some b → a ≡ b
same_some a b is = cc

module _ (bs : List Batch) (d : ℕ) (bytes : List ℕ) where
  -- a text that is given is UTF-8
  of_reading : (r : Reading) (q : ReadSet) → r.request ≡ q → FreezesTo bs r (Some bytes) → IsUtf8 bytes
  of_reading r (one_query q) one given = let told = rw one at given in subst IsUtf8 (sym told.spells) (spelling_utf8 told.frozen)
  of_reading r (queries qs) several given = absurd (rw several at given)

  pub told_utf8 : (o : Option Reading) → Some d ≡ option_map (λ r. r.dateline) o → IfSome o (λ r. FreezesTo bs r (Some bytes)) → IsUtf8 bytes
  told_utf8 None is given = absurd (cc)
  told_utf8 (Some r) is given = of_reading r r.request refl given

  -- and its line is that of a frozen reading
  line_of : (k : ℕ) (r : Reading) (q : ReadSet) (line : List ℕ) → r.request ≡ q → d ≡ r.dateline → FreezesTo bs r (Some bytes) → line ≡ told_line d k bytes → FreezesAs bs k (Some r) line
  line_of k r (one_query q) line one late given is =
      let told = rw one at given in
      rw one (told.frozen, told.freezes, is ∙ (ap (λ (m : ℕ). told_line m k bytes) late ∙ ap (told_line r.dateline k) told.spells))
  line_of k r (queries qs) line several late given is = absurd (rw several at given)

  pub tells_frozen : (k : ℕ) (o : Option Reading) (line : List ℕ) → Some d ≡ option_map (λ r. r.dateline) o → IfSome o (λ r. FreezesTo bs r (Some bytes)) → line ≡ told_line d k bytes → FreezesAs bs k o line
  tells_frozen k None line is given told = absurd (cc)
  tells_frozen k (Some r) line is given told = line_of k r r.request line refl (same_some d r.dateline is) given told

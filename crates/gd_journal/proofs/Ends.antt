-- Where the records of a file end that was looked at.
use Rattle.std.proofs.Common.{◌≡◌, ℕ, ◌<◌, List, [], length, Some, None, true, false, inl, inr, sym, ◌∙◌, ap, arith}
use Rattle.std.proofs.lemmas.Bool.{cases_lt}
use Rattle.std.specs.Prelude.{Bool, Option, MatchOption}
use Rattle.std.specs.List.{AllByRecursion}
use Rattle.std.specs.Option.{is_some}
use Rattle.gd_bytes.specs.File.{Version, version_of, Payloads}
use Rattle.gd_journal.specs.Meaning.{held_by, located, IsDamagedAt, marked_by}
use Rattle.gd_journal.specs.Shape.{front, IsPayload, IsClosed}
use Rattle.gd_journal.specs.State.{HasEnd, Sees}
use Rattle.gd_journal.proofs.Means.{held_short}
use Rattle.gd_journal.proofs.Heads.{walked_closed, walked_held, torn_ends, ends_shut}

-- behind some payloads the file is closed
pub end_closed : (file : List ℕ) (len : ℕ) (v : Version) (marked : Bool) (gate : ℕ) (damaged : Option ℕ) → HasEnd file len v marked gate damaged → 9 < len → is_some damaged ≡ false
    → (ps : List (List ℕ)) × AllByRecursion IsPayload ps × (gate ≡ length (front v ps)) × IsClosed v ps file × (marked ≡ marked_by v ps)
end_closed file len v marked gate damaged h long none =
    let e = h.ends long in
    (e.0, e.1.each, e.1.place, walked_closed v e.0 gate file (omega (arith, h.size, h.within long)) e.1 (ends_shut damaged gate file none e.2), e.3)

-- or a record is damaged
pub end_torn : (file : List ℕ) (len : ℕ) (v : Version) (marked : Bool) (gate : ℕ) (damaged : Option ℕ) (A U : Type 0) → HasEnd file len v marked gate damaged → 9 < len → is_some damaged ≡ true → U → MatchOption damaged A (λ at. IsDamagedAt at file × U)
end_torn file len v marked gate damaged A U h long some u =
    let e = h.ends long in
    torn_ends v damaged e.0 gate file A U some (omega (arith, h.size)) (omega (arith, h.size, h.within long)) e.1 e.2 u

-- the damage that is found is the one that is known
pub end_damage : (file : List ℕ) (len : ℕ) (v : Version) (marked : Bool) (gate : ℕ) (damaged : Option ℕ) (found : Payloads) → HasEnd file len v marked gate damaged → held_by file ≡ Some found → found.damaged ≡ damaged
end_damage file len v marked gate damaged found h held = elim (cases_lt 9 len) [
  | inr short ↦
      let one : Some found ≡ Some (record { list = []; damaged = None }) = sym held ∙ held_short file (omega (arith, h.size)) in
      let same : found ≡ record { list = []; damaged = None } = cc in
      ap (λ (p : Payloads). p.damaged) same ∙ sym (h.short short).1
  | inl long ↦
      let e = h.ends long in
      let one : Some found ≡ Some (record { list = located 8 e.0; damaged = damaged }) = sym held ∙ walked_held v e.0 gate file damaged (omega (arith, h.size)) (omega (arith, h.size, h.within long)) e.1 e.2 in
      let same : found ≡ record { list = located 8 e.0; damaged = damaged } = cc in
      ap (λ (p : Payloads). p.damaged) same
]

-- with damage it has the header
pub end_version : (file : List ℕ) (len : ℕ) (v : Version) (marked : Bool) (gate : ℕ) (damaged : Option ℕ) → HasEnd file len v marked gate damaged → is_some damaged ≡ true → version_of file ≡ Some v
end_version file len v marked gate damaged h some = elim (cases_lt 9 len) [
  | inr short ↦ cc (some, ap is_some (h.short short).1)
  | inl long ↦ h.begins long
]

-- no call that changes nothing changes what was seen
pub sees_less : (co cn : Option (List ℕ)) (io ima : List ℕ → Type 0) (len : ℕ) (v : Version) (marked : Bool) (gate : ℕ) (damaged : Option ℕ) → cn ≡ co → ((c : List ℕ) → ima c → io c) → Sees co io len v marked gate damaged → Sees cn ima len v marked gate damaged
sees_less co cn io ima len v marked gate damaged same less s = λ f is. let there = s f (sym same ∙ is) in (λ c now. there.0 c (less c now), there.1)

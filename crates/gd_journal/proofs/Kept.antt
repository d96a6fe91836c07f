-- What a journal keeps over a call.
use Rattle.std.proofs.Common.{◌≡◌, ◌+◌, ◌^◌, ◌<◌, ℕ, List, [], ◌∷◌, ◌++◌, length, Some, None, true, refl, sym, ◌∙◌, ap, subst, arith, length-append}
use Rattle.std.specs.Prelude.{Option, IsSome, MatchOption}
use Rattle.std.specs.Option.{is_some}
use Rattle.std.specs.List.{AllByRecursion}
use Rattle.gd_bytes.specs.Disk.{Stays}
use Rattle.gd_bytes.specs.File.{Version, version_of}
use Rattle.gd_journal.specs.Meaning.{IsDamagedAt, with_mark}
use Rattle.gd_journal.specs.Shape.{front, IsPayload, IsAtRest, IsDoubtful}
use Rattle.gd_journal.specs.State.{AtGate, IsSettled, IsInDoubt, IsOpened, Standing}
use Rattle.gd_journal.proofs.Gates.{at_rest_closed, All_push, length-front_push}
use Rattle.gd_journal.proofs.Headers.{version_front}
use Rattle.gd_journal.proofs.Means.{closed_stands, doubtful_stands}

pub at_gate_stays : (co cn : Option (List ℕ)) (io ima : List ℕ → Type 0) (gate : ℕ) (v : Version) (ps : List (List ℕ)) (P : List ℕ → Type 0) → Stays co cn io ima → AtGate co io gate v ps P → AtGate cn ima gate v ps P
at_gate_stays co cn io ima gate v ps P stays s = record { told = ap is_some stays.content ∙ s.told; place = s.place; left = λ c now. s.left c (stays.images c now) }

pub settled_of : (co : Option (List ℕ)) (im : List ℕ → Type 0) (v : Version) (gate : ℕ) (doubt damaged : Option ℕ) → doubt ≡ None → damaged ≡ None → Standing co im v gate doubt damaged → (ps : List (List ℕ)) × IsSettled co im gate v ps
settled_of co im v gate None None a b s = s
settled_of co im v gate (Some n) damaged a b s = cc
settled_of co im v gate None (Some n) a b s = cc

pub settled_standing : (co : Option (List ℕ)) (im : List ℕ → Type 0) (gate : ℕ) (damaged : Option ℕ) (v : Version) (ps : List (List ℕ)) → damaged ≡ None → IsSettled co im gate v ps → Standing co im v gate None damaged
settled_standing co im gate damaged v ps none s = subst (λ (o : Option ℕ). Standing co im v gate None o) (sym none) (ps, s)

pub doubt_standing : (co : Option (List ℕ)) (im : List ℕ → Type 0) (gate next : ℕ) (doubt damaged : Option ℕ) (v : Version) (ps : List (List ℕ)) (p : List ℕ) → doubt ≡ Some next → damaged ≡ None → IsInDoubt co im gate next v ps p → Standing co im v gate doubt damaged
doubt_standing co im gate next doubt damaged v ps p some none s =
    subst (λ (o : Option ℕ). Standing co im v gate o damaged) (sym some) (subst (λ (o : Option ℕ). Standing co im v gate (Some next) o) (sym none) (ps, p, s))

-- with a doubt there is no damage
pub doubt_of : (co : Option (List ℕ)) (im : List ℕ → Type 0) (v : Version) (gate : ℕ) (doubt damaged : Option ℕ) → IsSome doubt → Standing co im v gate doubt damaged
    → (next : ℕ) × (doubt ≡ Some next) × (damaged ≡ None) × (ps : List (List ℕ)) × (p : List ℕ) × IsInDoubt co im gate next v ps p
doubt_of co im v gate (Some n) None is s = (n, refl, refl, s.0, s.1, s.2)
doubt_of co im v gate (Some n) (Some m) is s = absurd s
doubt_of co im v gate None damaged is s = cc

-- a file at rest is as long as its gate says
pub settled_long : (co : Option (List ℕ)) (im : List ℕ → Type 0) (gate : ℕ) (v : Version) (ps : List (List ℕ)) (file : List ℕ) → IsSettled co im gate v ps → im file → length file ≡ gate + 1
settled_long co im gate v ps file s now = let r = s.rests.left file now in omega (arith, s.rests.place, ap length r.is, length-append (front v ps) (r.gate ∷ []))

pub doubt_long : (co : Option (List ℕ)) (im : List ℕ → Type 0) (gate next : ℕ) (v : Version) (ps : List (List ℕ)) (p file : List ℕ) → IsInDoubt co im gate next v ps p → im file → gate < length file
doubt_long co im gate next v ps p file s now = let r = s.rests.left file now in omega (arith, s.rests.place, ap length r.is, length-append (front v ps) (r.gate ∷ r.rest))

pub settle : (co : Option (List ℕ)) (im : List ℕ → Type 0) (gate : ℕ) (v : Version) (ps : List (List ℕ)) → AllByRecursion IsPayload ps → AtGate co im gate v ps (IsAtRest v ps) → IsSettled co im gate v ps
settle co im gate v ps each rests = record { each = each; rests = rests; means = λ c now. closed_stands v ps c each (at_rest_closed v ps c (rests.left c now)) }

-- one payload more
pub added : (co : Option (List ℕ)) (im : List ℕ → Type 0) (gate next : ℕ) (v : Version) (ps : List (List ℕ)) (p : List ℕ) → AllByRecursion IsPayload ps → IsPayload p → gate ≡ length (front v ps) → next ≡ gate + length p + 5 → IsSome co
    → ((c : List ℕ) → im c → IsAtRest v (ps ++ p ∷ []) c) → IsSettled co im next v (ps ++ p ∷ [])
added co im gate next v ps p each last place behind told left =
    settle co im next v (ps ++ p ∷ []) (All_push ps p each last) (record { told = told; place = omega (arith, place, behind, length-front_push v ps p); left = left })

-- one that is in doubt
pub doubted : (co : Option (List ℕ)) (im : List ℕ → Type 0) (gate next : ℕ) (v : Version) (ps : List (List ℕ)) (p : List ℕ) → AllByRecursion IsPayload ps → IsPayload p → gate ≡ length (front v ps) → next ≡ gate + length p + 5 → next < 2 ^ 63 → IsSome co
    → ((c : List ℕ) → im c → IsDoubtful v ps p c) → IsInDoubt co im gate next v ps p
doubted co im gate next v ps p each last place behind near told left = record {
  each = each;
  last = last;
  next_place = behind;
  near = near;
  rests = record { told = told; place = place; left = left };
  means = λ c now. doubtful_stands v ps p c each last (left c now);
}

-- no image is new
pub Standing-less : (co cn : Option (List ℕ)) (io ima : List ℕ → Type 0) (v : Version) (gate : ℕ) (doubt damaged : Option ℕ) → cn ≡ co → ((c : List ℕ) → ima c → io c) → Standing co io v gate doubt damaged → Standing cn ima v gate doubt damaged
Standing-less co cn io ima v gate None None same less (ps, s) = (ps, settle cn ima gate v ps s.each (record { told = ap is_some same ∙ s.rests.told; place = s.rests.place; left = λ c now. s.rests.left c (less c now) }))
Standing-less co cn io ima v gate (Some n) None same less (ps, p, s) = (ps, p, doubted cn ima gate n v ps p s.each s.last s.rests.place s.next_place s.near (ap is_some same ∙ s.rests.told) (λ c now. s.rests.left c (less c now)))
Standing-less co cn io ima v gate None (Some n) same less s = λ c now. s c (less c now)
Standing-less co cn io ima v gate (Some n) (Some m) same less s = s

-- what stands for an opened file is kept
pub opened_standing : (damaged : Option ℕ) (co : Option (List ℕ)) (im : List ℕ → Type 0) (v : Version) (gate : ℕ) (file : List ℕ) (U : Type 0) → (U → (c : List ℕ) → im c → c ≡ file) → (is_some damaged ≡ true → version_of file ≡ Some v)
    → MatchOption damaged (IsOpened co im v gate file) (λ at. IsDamagedAt at file × U) → Standing co im v gate None damaged
opened_standing None co im v gate file U only begins m = (with_mark v m.0, m.2)
opened_standing (Some at) co im v gate file U only begins m = λ c now.
    let same = sym (only m.1 c now) in
    (subst (IsDamagedAt at) same m.0, sym (ap version_of same) ∙ begins refl)

pub opened_then : (damaged : Option ℕ) (file : List ℕ) (A U V : Type 0) → (U → V) → MatchOption damaged A (λ at. IsDamagedAt at file × U) → MatchOption damaged A (λ at. IsDamagedAt at file × V)
opened_then None file A U V to m = m
opened_then (Some at) file A U V to m = (m.0, to m.1)

-- ---- the version that is kept

-- each image that is left has it
pub standing_version : (co : Option (List ℕ)) (im : List ℕ → Type 0) (v : Version) (gate : ℕ) (doubt damaged : Option ℕ) (file : List ℕ) → Standing co im v gate doubt damaged → im file → version_of file ≡ Some v
standing_version co im v gate None None file (ps, s) now = let r = s.rests.left file now in version_front v ps (r.gate ∷ []) file r.is
standing_version co im v gate (Some n) None file (ps, p, s) now = let r = s.rests.left file now in version_front v ps (r.gate ∷ r.rest) file r.is
standing_version co im v gate None (Some n) file s now = (s file now).1
standing_version co im v gate (Some n) (Some m) file s now = absurd s

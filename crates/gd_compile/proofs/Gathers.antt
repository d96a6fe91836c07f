-- What was gathered of a clause.
use Rattle.std.proofs.Common.{◌≡◌, List, [], ◌∷◌, ◌++◌, map, Option, Some, None, Vec, Global, refl, ap, ◌∙◌}
use Rattle.std.specs.Prelude.{option_map, unwrap_or}
use Rattle.gd_defs.specs.Asked as defs
use Rattle.gd_plan.specs.Seen.{sort_key_view}
use Rattle.gd_plan.specs.Asked.{put, members_view}
use Rattle.gd_plan.specs.declared.asked.Member.{Member}
use Rattle.gd_plan.specs.declared.asked.SortKey.{SortKey}
use Rattle.gd_compile.specs.Walk.{before}

-- the sort keys that were kept, or others
abbrev pub keys_or : Option (Vec SortKey Global) → List defs.SortKey → List defs.SortKey
keys_or s others = unwrap_or (option_map (λ keys. map sort_key_view keys.items) s) others

all_before : (ms : List Member) → members_view ms ≡ before ms defs.no_members
all_before [] = refl
all_before (m ∷ ms) = ap (put m) (all_before ms)

one_more : (ms : List Member) (m : Member) (rest : defs.Members) → before (ms ++ m ∷ []) rest ≡ before ms (put m rest)
one_more [] m rest = refl
one_more (x ∷ ms) m rest = ap (put x) (one_more ms m rest)

kept : (s : Option (Vec SortKey Global)) (none : Vec SortKey Global) → none.items ≡ [] → map sort_key_view (unwrap_or s none).items ≡ keys_or s []
kept None none empty = ap (map sort_key_view) empty
kept (Some keys) none empty = refl

-- nothing is left of the clause
pub whole_clause : (ms : List Member) (s : Option (Vec SortKey Global)) (keys none : Vec SortKey Global) → keys ≡ unwrap_or s none → none.items ≡ []
    → ◌≡◌ {A = defs.Clause} (members_view ms, map sort_key_view keys.items) (before ms defs.no_members, keys_or s [])
whole_clause ms s keys none is empty =
    ap (λ (front : defs.Members). (front, map sort_key_view keys.items)) (all_before ms)
    ∙ ap (λ (ks : List defs.SortKey). (before ms defs.no_members, ks)) (ap (λ (v : Vec SortKey Global). map sort_key_view v.items) is ∙ kept s none empty)

-- a member more
pub member_pushed : (old new : List Member) (m : Member) (s : Option (Vec SortKey Global)) (d : defs.Clause) → new ≡ old ++ m ∷ []
    → ◌≡◌ {A = defs.Clause} (before new d.0, keys_or s d.1) (before old (put m d.0), keys_or s d.1)
member_pushed old new m s d is = ap (λ (front : defs.Members). (front, keys_or s d.1)) (ap (λ (ms : List Member). before ms d.0) is ∙ one_more old m d.0)

-- The members of an object in byte order of their names.
use Rattle.std.proofs.Common.{◌≡◌, ℕ, List, [], ◌∷◌, Ordering, Less, Equal, Greater, Global, Bor, refl, ◌∙◌}
use Rattle.std.specs.BTreeMap.{insert_entry}
use Rattle.std.specs.Ordering.{nat_cmp, match_ordering}
use Rattle.std.specs.Cmp.Lexicographic.{slice_cmp}
use Rattle.json.specs.Value.{value_view}
use Rattle.json.specs.declared.value.Value.{Value}
use Rattle.serde_json.specs.Data.{put}
use Rattle.gd_json.specs.Text.{as_data, entries_data}

abbrev pub Entry : Type 0
Entry = Bor (List ℕ) × Bor (Value Global)

abbrev pub name_cmp : Bor (List ℕ) → Bor (List ℕ) → Ordering
name_cmp a b = slice_cmp nat_cmp a.now b.now

chosen : (o : Ordering) (a b c : List Entry) → entries_data (match_ordering o a b c) ≡ match_ordering o (entries_data a) (entries_data b) (entries_data c)
chosen Less a b c = refl
chosen Equal a b c = refl
chosen Greater a b c = refl

-- an entry that goes into a map is a member that is put among the others
pub put_entry : (es : List Entry) (k : Bor (List ℕ)) (v : Bor (Value Global)) → entries_data (insert_entry name_cmp es k v) ≡ put k.now (as_data (value_view v.now)) (entries_data es)
put_entry [] k v = refl
put_entry (e ∷ es) k v = chosen (name_cmp k e.0) _ _ _ ∙ rw (put_entry es k v)

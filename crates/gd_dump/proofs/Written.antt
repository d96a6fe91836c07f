-- Lines as they are written, part behind part.
use Rattle.std.proofs.Common.{◌≡◌, ℕ, List, [], ◌∷◌, ◌++◌, append_assoc}
use Rattle.gd_grammar.specs.Mark.{place_text}
use Rattle.gd_prim.specs.declared.Primitive.{Primitive}
use Rattle.gd_dump_laws.specs.Dump.{prim_line, live_mark, value_text, name_text}

-- the parts of the line of a primitive, each behind what was written
pub line_whole : (out : List ℕ) (p : Primitive) → ((((((((out ++ (place_text p.left ++ 32 ∷ [])) ++ (place_text p.right ++ 32 ∷ [])) ++ (place_text p.typ ++ 32 ∷ [])) ++ (place_text p.scope ++ 32 ∷ [])) ++ (place_text p.previous ++ 32 ∷ []))
    ++ (place_text p.lang ++ 32 ∷ [])) ++ (live_mark p.live ∷ 32 ∷ [])) ++ (value_text p.value ++ 32 ∷ [])) ++ (name_text p.name ++ 10 ∷ []) ≡ out ++ prim_line p
line_whole out p = regroup out (place_text p.left ++ 32 ∷ []) (place_text p.right ++ 32 ∷ []) (place_text p.typ ++ 32 ∷ []) (place_text p.scope ++ 32 ∷ []) (place_text p.previous ++ 32 ∷ []) (place_text p.lang ++ 32 ∷ []) (live_mark p.live ∷ 32 ∷ []) (value_text p.value ++ 32 ∷ []) (name_text p.name ++ 10 ∷ [])
  where
    regroup : (o l r t s p g a v n : List ℕ) → ((((((((o ++ l) ++ r) ++ t) ++ s) ++ p) ++ g) ++ a) ++ v) ++ n ≡ o ++ (l ++ r ++ t ++ s ++ p ++ g ++ a ++ v ++ n)
    regroup o l r t s p g a v n = simp append_assoc

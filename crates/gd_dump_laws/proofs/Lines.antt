-- Lines of dumps are read exactly.
use Rattle.std.proofs.Common.{◌≡◌, refl, ℕ, ◌-◌, ◌<◌, ◌≤◌, ◌^◌, Bool, List, [], ◌∷◌, ◌++◌, Option, codes, decimal, sym, ◌∙◌, subst, arith, append_assoc}
use Rattle.gd_base.specs.declared.datum.Datum.{Datum}
use Rattle.gd_prim.specs.declared.Primitive.{Primitive}
use Rattle.gd_prim.specs.WellFormed.{max_moment}
use Rattle.gd_grammar.specs.Grammar.{Reads, IsText, text_at}
use Rattle.gd_grammar.specs.Mark.{place_text}
use Rattle.gd_grammar.proofs.Scans.{Then, chain}
use Rattle.gd_grammar.proofs.Exact.{Sound, Sound-then, Sound-same, Sound-mapped, Mapped, mapped, join}
use Rattle.gd_grammar.proofs.Numbers.{Word}
use Rattle.gd_dump_laws.proofs.Marks.{Sound-word, Marked, Sound-marked}
use Rattle.gd_dump_laws.proofs.Parts.{Place, Sound-place, Live, Sound-live, Name, Sound-name, no_space, no_line}
use Rattle.gd_dump_laws.proofs.Values.{Value, Sound-value}
use Rattle.gd_dump_laws.specs.Dump.{live_mark, value_text, name_text, prim_line, batch_head, dump_head, dump_end, PrimitiveFits}
use Rattle.gd_dump_laws.specs.Reading.{number_to, place_at, live_at, value_at, name_at, behind_typ_at, prim_at, head_at, batch_at, end_at}

-- ---- primitives

abbrev pub Ref : Type 0
Ref = Option ℕ

abbrev pub made : ℕ → Ref → Ref → Ref → Ref → Ref → Ref → Bool → Datum → Option (List ℕ) → Primitive
made m l r t s p g a v n = record { left = l; right = r; typ = t; scope = s; value = v; name = n; previous = p; live = a; moment = m; lang = g }

regroup : (l r t s p g a v n : List ℕ) → l ++ (r ++ (t ++ (s ++ (p ++ (g ++ (a ++ (v ++ n))))))) ≡ l ++ r ++ t ++ s ++ p ++ g ++ a ++ v ++ n
regroup l r t s p g a v n = simp append_assoc

-- the line of a primitive, part behind part
line_is : (x : Primitive) → (place_text x.left ++ 32 ∷ []) ++ ((place_text x.right ++ 32 ∷ []) ++ ((place_text x.typ ++ 32 ∷ []) ++ ((place_text x.scope ++ 32 ∷ []) ++ ((place_text x.previous ++ 32 ∷ []) ++ ((place_text x.lang ++ 32 ∷ []) ++ ((live_mark x.live ∷ 32 ∷ []) ++ ((value_text x.value ++ 32 ∷ []) ++ (name_text x.name ++ 10 ∷ []))))))))
    ≡ prim_line x
line_is x = regroup (place_text x.left ++ 32 ∷ []) (place_text x.right ++ 32 ∷ []) (place_text x.typ ++ 32 ∷ []) (place_text x.scope ++ 32 ∷ []) (place_text x.previous ++ 32 ∷ []) (place_text x.lang ++ 32 ∷ []) (live_mark x.live ∷ 32 ∷ []) (value_text x.value ++ 32 ∷ []) (name_text x.name ++ 10 ∷ [])

module _ (m : ℕ) where
  abbrev pub Valued : Ref → Ref → Ref → Ref → Ref → Ref → Bool → Primitive → List ℕ → Type 0
  Valued l r t s p g a = Then Value (λ v. Mapped (λ n. made m l r t s p g a v n) Name)

  abbrev valued_at : Ref → Ref → Ref → Ref → Ref → Ref → Bool → List ℕ → Reads Primitive
  valued_at l r t s p g a = chain value_at (λ v. mapped (λ n. made m l r t s p g a v n) name_at)

  valued : (l r t s p g : Ref) (a : Bool) → Sound (Valued l r t s p g a) (valued_at l r t s p g a)
  valued l r t s p g a = Sound-then Value (λ v. Mapped (λ n. made m l r t s p g a v n) Name) value_at (λ v. mapped (λ n. made m l r t s p g a v n) name_at) Sound-value (λ v w x. Sound-mapped (λ n. made m l r t s p g a v n) Name name_at Sound-name)

  abbrev pub Lived : Ref → Ref → Ref → Ref → Ref → Ref → Primitive → List ℕ → Type 0
  Lived l r t s p g = Then Live (Valued l r t s p g)

  abbrev lived_at : Ref → Ref → Ref → Ref → Ref → Ref → List ℕ → Reads Primitive
  lived_at l r t s p g = chain live_at (valued_at l r t s p g)

  lived : (l r t s p g : Ref) → Sound (Lived l r t s p g) (lived_at l r t s p g)
  lived l r t s p g = Sound-then Live (Valued l r t s p g) live_at (valued_at l r t s p g) Sound-live (λ a w x. valued l r t s p g a)

  abbrev pub Told : Ref → Ref → Ref → Ref → Ref → Primitive → List ℕ → Type 0
  Told l r t s p = Then Place (Lived l r t s p)

  abbrev told_at : Ref → Ref → Ref → Ref → Ref → List ℕ → Reads Primitive
  told_at l r t s p = chain place_at (lived_at l r t s p)

  told : (l r t s p : Ref) → Sound (Told l r t s p) (told_at l r t s p)
  told l r t s p = Sound-then Place (Lived l r t s p) place_at (lived_at l r t s p) Sound-place (λ g w x. lived l r t s p g)

  abbrev pub Previous : Ref → Ref → Ref → Ref → Primitive → List ℕ → Type 0
  Previous l r t s = Then Place (Told l r t s)

  abbrev previous_at : Ref → Ref → Ref → Ref → List ℕ → Reads Primitive
  previous_at l r t s = chain place_at (told_at l r t s)

  previous : (l r t s : Ref) → Sound (Previous l r t s) (previous_at l r t s)
  previous l r t s = Sound-then Place (Told l r t s) place_at (told_at l r t s) Sound-place (λ p w x. told l r t s p)

  abbrev pub Scope : Ref → Ref → Ref → Primitive → List ℕ → Type 0
  Scope l r t = Then Place (Previous l r t)

  scope : (l r t : Ref) → Sound (Scope l r t) (behind_typ_at m l r t)
  unfolding behind_typ_at
  scope l r t = Sound-then Place (Previous l r t) place_at (previous_at l r t) Sound-place (λ s w x. previous l r t s)

  abbrev pub Typ : Ref → Ref → Primitive → List ℕ → Type 0
  Typ l r = Then Place (Scope l r)

  abbrev typ_at : Ref → Ref → List ℕ → Reads Primitive
  typ_at l r = chain place_at (behind_typ_at m l r)

  typ : (l r : Ref) → Sound (Typ l r) (typ_at l r)
  typ l r = Sound-then Place (Scope l r) place_at (behind_typ_at m l r) Sound-place (λ t w x. scope l r t)

  abbrev pub Right : Ref → Primitive → List ℕ → Type 0
  Right l = Then Place (Typ l)

  abbrev right_at : Ref → List ℕ → Reads Primitive
  right_at l = chain place_at (typ_at l)

  right : (l : Ref) → Sound (Right l) (right_at l)
  right l = Sound-then Place (Typ l) place_at (typ_at l) Sound-place (λ r w x. typ l r)

  abbrev pub Left : Primitive → List ℕ → Type 0
  Left = Then Place Right

  left : Sound Left (prim_at m)
  unfolding prim_at
  left = Sound-then Place Right place_at right_at Sound-place (λ l w x. right l)

  abbrev pub Spelled : Primitive → List ℕ → Type 0
  Spelled = IsText prim_line (PrimitiveFits m)

  to_spelled : (x : Primitive) (w : List ℕ) → Left x w → Spelled x w
  to_spelled x w (l, a1, u1, (l_fits, a1_is), (r, a2, u2, (r_fits, a2_is), (t, a3, u3, (t_fits, a3_is), (s, a4, u4, (s_fits, a4_is), (p, a5, u5, (p_fits, a5_is), (g, a6, u6, (g_fits, a6_is), (a, a7, u7, (b_fits, a7_is), (v, a8, u8, (v_fits, a8_is), (n, x_is, (n_fits, u8_is)), u7_is), u6_is), u5_is), u4_is), u3_is), u2_is), u1_is), w_is) =
      subst (λ (q : Primitive). Spelled q w) (sym x_is) (
        record { left = l_fits; right = r_fits; typ = t_fits; scope = s_fits; previous = p_fits; lang = g_fits; value = v_fits; name = n_fits; same = refl },
        join w_is a1_is (join u1_is a2_is (join u2_is a3_is (join u3_is a4_is (join u4_is a5_is (join u5_is a6_is (join u6_is a7_is (join u7_is a8_is u8_is))))))) ∙ line_is (made m l r t s p g a v n),
      )

  from_spelled : (x : Primitive) (w : List ℕ) → Spelled x w → Left x w
  from_spelled x w (fits, w_is) =
      let same : x ≡ made m x.left x.right x.typ x.scope x.previous x.lang x.live x.value x.name = (λ i. record { left = x.left; right = x.right; typ = x.typ; scope = x.scope; value = x.value; name = x.name; previous = x.previous; live = x.live; moment = fits.same i; lang = x.lang }) in
      (x.left, place_text x.left ++ 32 ∷ [], _, (fits.left, refl), (x.right, place_text x.right ++ 32 ∷ [], _, (fits.right, refl), (x.typ, place_text x.typ ++ 32 ∷ [], _, (fits.typ, refl), (x.scope, place_text x.scope ++ 32 ∷ [], _, (fits.scope, refl), (x.previous, place_text x.previous ++ 32 ∷ [], _, (fits.previous, refl), (x.lang, place_text x.lang ++ 32 ∷ [], _, (fits.lang, refl), (x.live, live_mark x.live ∷ 32 ∷ [], _, (tt, refl), (x.value, value_text x.value ++ 32 ∷ [], _, (fits.value, refl), (x.name, same, (fits.name, refl)), refl), refl), refl), refl), refl), refl), refl), w_is ∙ sym (line_is x))

  pub Sound-prim : Sound Spelled (prim_at m)
  Sound-prim = Sound-same Left Spelled (prim_at m) to_spelled from_spelled left

-- ---- the other lines

-- the first line of a dump
abbrev pub Head : ℕ → List ℕ → Type 0
Head = IsText dump_head (λ n. n < 2 ^ 32)

abbrev HeadParts : ℕ → List ℕ → Type 0
HeadParts = Then (Word (codes "graphd-dump 1 ")) (λ u. Marked (2 ^ 32 - 1) 10)

pub Sound-head : Sound Head head_at
unfolding head_at
Sound-head = Sound-same HeadParts Head head_at
    (λ n w (u, v, x, v_is, (within, x_is), w_is). (omega (arith, within), join w_is v_is x_is))
    (λ n w (small, w_is). (tt, codes "graphd-dump 1 ", decimal n ++ 10 ∷ [], refl, (omega (arith, small), refl), w_is))
    (Sound-then (Word (codes "graphd-dump 1 ")) (λ u. Marked (2 ^ 32 - 1) 10) (text_at (codes "graphd-dump 1 ")) (λ u. number_to (2 ^ 32 - 1) 10) (Sound-word (codes "graphd-dump 1 ")) (λ u w s. Sound-marked (2 ^ 32 - 1) 10 (omega arith) no_line))

-- the first line of a batch: its moment, and how many primitives it has
abbrev pub Opens : ℕ × ℕ → List ℕ → Type 0
Opens x w = ((x.0 ≤ max_moment) × (x.1 ≤ 4096)) × (w ≡ batch_head x.0 x.1)

abbrev Counted : ℕ → ℕ × ℕ → List ℕ → Type 0
Counted m = Mapped (λ n. (m, n)) (Marked 4096 10)

abbrev OpensParts : ℕ × ℕ → List ℕ → Type 0
OpensParts = Then (Word (codes "batch ")) (λ u. Then (Marked max_moment 32) Counted)

pub Sound-opens : Sound Opens batch_at
unfolding batch_at
Sound-opens = Sound-same OpensParts Opens batch_at to from
    (Sound-then (Word (codes "batch ")) (λ u. Then (Marked max_moment 32) Counted) (text_at (codes "batch ")) (λ u. chain (number_to max_moment 32) (λ m. mapped (λ n. (m, n)) (number_to 4096 10))) (Sound-word (codes "batch "))
    (λ u w s. Sound-then (Marked max_moment 32) Counted (number_to max_moment 32) (λ m. mapped (λ n. (m, n)) (number_to 4096 10)) (Sound-marked max_moment 32 (omega arith) no_space)
    (λ m w s. Sound-mapped (λ n. (m, n)) (Marked 4096 10) (number_to 4096 10) (Sound-marked 4096 10 (omega arith) no_line))))
  where
    to : (x : ℕ × ℕ) (w : List ℕ) → OpensParts x w → Opens x w
    to x w (u, v, y, v_is, (m, a, z, (m_fits, a_is), (n, x_is, (n_fits, z_is)), y_is), w_is) = subst (λ (p : ℕ × ℕ). Opens p w) (sym x_is) ((m_fits, n_fits), join w_is v_is (join y_is a_is z_is))

    from : (x : ℕ × ℕ) (w : List ℕ) → Opens x w → OpensParts x w
    from (m, n) w ((m_fits, n_fits), w_is) = (tt, codes "batch ", (decimal m ++ 32 ∷ []) ++ (decimal n ++ 10 ∷ []), refl, (m, decimal m ++ 32 ∷ [], decimal n ++ 10 ∷ [], (m_fits, refl), (n, refl, (n_fits, refl)), refl), w_is)

-- two words, one behind the other
words_then : (a b : List ℕ) (two : List ℕ → Reads (Unit {0})) → Sound (Word b) two → Sound (Word (a ++ b)) (chain (text_at a) (λ u. two))
words_then a b two reads = Sound-same (Then (Word a) (λ u. Word b)) (Word (a ++ b)) (chain (text_at a) (λ u. two))
    (λ u w (x, v, y, v_is, y_is, w_is). join w_is v_is y_is)
    (λ u w w_is. (tt, a, b, refl, refl, w_is))
    (Sound-then (Word a) (λ u. Word b) (text_at a) (λ u. two) (Sound-word a) (λ u w s. reads))

-- the last line of a dump of so many batches
pub Sound-end : (count : ℕ) → Sound (Word (dump_end count)) (end_at count)
unfolding end_at
Sound-end count = words_then (codes "end ") (decimal count ++ 10 ∷ []) (chain (text_at (decimal count)) (λ v. text_at (10 ∷ []))) (words_then (decimal count) (10 ∷ []) (text_at (10 ∷ [])) (Sound-word (10 ∷ [])))

-- What may follow in a dump of which this was read: a line, and what follows it.
use Rattle.std.proofs.Common.{◌≡◌, refl, inl, inr, ℕ, ◌+◌, ◌-◌, ◌<◌, ◌≤◌, ◌^◌, List, [], ◌∷◌, ◌++◌, length, flat_map, sym, ◌∙◌, ap, subst, arith, append_assoc, length-append}
use Rattle.std.specs.List.{AllByRecursion}
use Rattle.std.proofs.lemmas.List.{append-nil}
use Rattle.std.proofs.lemmas.Grind.{flat_map-append}
use Rattle.gd_prim.specs.declared.Primitive.{Primitive}
use Rattle.gd_prim.specs.declared.Batch.{Batch}
use Rattle.gd_prim.specs.WellFormed.{max_moment}
use Rattle.gd_grammar.specs.Grammar.{IsText}
use Rattle.gd_grammar.proofs.Scans.{head_same}
use Rattle.gd_dump_laws.proofs.Lines.{Head, Sound-head, Opens, Sound-opens, Sound-prim}
use Rattle.gd_dump_laws.proofs.Batches.{Sound-batch, sound_prims, one_text, items_front, NoItem, all_joined, all_behind, made}
use Rattle.gd_dump_laws.proofs.Steps.{Open, Line}
use Rattle.gd_dump_laws.specs.Dump.{prim_line, batch_head, batch_text, dump_head, dump_end, Dump, spelling, PrimitiveFits, BatchFits, Fits}
use Rattle.gd_dump_laws.specs.Progress.{Progress, opening, between, within, closed, consumed, opened, added, Read}

-- these bytes end some dump behind what was read
abbrev pub Tail : Progress → List ℕ → Type 0
Tail p w = (d : Dump) × Fits d × (spelling d ≡ consumed p ++ w)

abbrev pub IsBatch : Batch → List ℕ → Type 0
IsBatch = IsText batch_text BatchFits

-- no batch begins as the last line does
end_no_batch : (b : Batch) (count : ℕ) (t u : List ℕ) → dump_end count ++ u ≡ batch_text b ++ t → ⊥
end_no_batch b count t u is = let heads : 101 ≡ 98 = head_same is in omega (arith, heads)

end_alone : (b : Batch) (count : ℕ) (t : List ℕ) → dump_end count ≡ batch_text b ++ t → ⊥
end_alone b count t is = let heads : 101 ≡ 98 = head_same is in omega (arith, heads)

pub no_batch : (count : ℕ) → NoItem batch_text BatchFits _ Sound-batch.exact (dump_end count)
no_batch count b t fits is = end_alone b count t is

pub heads_same : (m n : ℕ) (a b : List ℕ) → (m < 2 ^ 32) → (n < 2 ^ 32) → dump_head m ++ a ≡ dump_head n ++ b → (m ≡ n) × (a ≡ b)
heads_same m n a b m_small n_small is = one_text Head _ Sound-head.exact m n (dump_head m) (dump_head n) a b (m_small, refl) (n_small, refl) is

pub opens_same : (x y : ℕ × ℕ) (a b : List ℕ) → (x.0 ≤ max_moment) × (x.1 ≤ 4096) → (y.0 ≤ max_moment) × (y.1 ≤ 4096) → batch_head x.0 x.1 ++ a ≡ batch_head y.0 y.1 ++ b → (x ≡ y) × (a ≡ b)
opens_same x y a b x_fits y_fits is = one_text Opens _ Sound-opens.exact x y (batch_head x.0 x.1) (batch_head y.0 y.1) a b (x_fits, refl) (y_fits, refl) is

-- the batches behind those that were read
pub record Behind (d : Dump) (first : ℕ) (batches : List Batch) (w : List ℕ) : Type 0 where
  pub same : d.first ≡ first
  pub more : List Batch
  pub all : d.batches ≡ batches ++ more
  pub each : AllByRecursion BatchFits more
  pub text : w ≡ flat_map batch_text more ++ dump_end (length d.batches)

pub behind : (d : Dump) (first : ℕ) (batches : List Batch) (w : List ℕ) → Fits d → first < 2 ^ 32 → AllByRecursion BatchFits batches → spelling d ≡ (dump_head first ++ flat_map batch_text batches) ++ w → Behind d first batches w
behind d first batches w fits small each is =
    let regroup : dump_head d.first ++ (flat_map batch_text d.batches ++ dump_end (length d.batches)) ≡ dump_head first ++ (flat_map batch_text batches ++ w) =
    sym (append_assoc (dump_head d.first) (flat_map batch_text d.batches) (dump_end (length d.batches))) ∙ is ∙ append_assoc (dump_head first) (flat_map batch_text batches) w in
    let (same, tail) = heads_same d.first first _ _ fits.first small regroup in
    let (zs, all, w_is) = items_front batch_text BatchFits _ Sound-batch.exact batches d.batches (dump_end (length d.batches)) w fits.each each (inr (no_batch (length d.batches))) tail in
    record { same = same; more = zs; all = all; each = all_behind BatchFits batches zs (subst (λ (l : List Batch). AllByRecursion BatchFits l) all fits.each); text = w_is }

-- ---- some dump goes on behind what was read

pub some_tail : (p : Progress) → Read p → (w : List ℕ) × Tail p w
some_tail opening read = (_, (record { first = 0; batches = [] }, record { first = omega arith; each = tt }, refl))
some_tail (between first batches) (small, each) = (dump_end (length batches), (record { first = first; batches = batches }, record { first = small; each = each }, refl))
some_tail (within first batches m n ps) ((small, each), (m_fits, n_fits, few, fits)) =
    let (us, u, (long, all, u_is)) = (sound_prims m (n - length ps)).some in
    let prims = ps ++ us in
    let count : length prims ≡ n = omega (arith, length-append ps us, long, few) in
    let b = made m prims in
    let b_fits : BatchFits b = record { moment = m_fits; few = omega (arith, count, n_fits); each = all_joined (PrimitiveFits m) ps us fits all } in (
      flat_map prim_line us ++ dump_end (length (batches ++ b ∷ [])),
      (
        record { first = first; batches = batches ++ b ∷ [] },
        record { first = small; each = all_joined BatchFits batches (b ∷ []) each (b_fits, tt) },
        ap (λ (l : List ℕ). l ++ dump_end (length (batches ++ b ∷ []))) (text b us count refl)
            ∙ append_assoc (((dump_head first ++ flat_map batch_text batches) ++ batch_head m n) ++ flat_map prim_line ps) (flat_map prim_line us) (dump_end (length (batches ++ b ∷ []))),
      ),
    )
  where
    regroup : (a b c d e : List ℕ) → a ++ (b ++ (c ++ (d ++ e))) ≡ (((a ++ b) ++ c) ++ d) ++ e
    regroup a b c d e = simp append_assoc

    text : (b : Batch) (us : List Primitive) → length (ps ++ us) ≡ n → b ≡ made m (ps ++ us)
        → dump_head first ++ flat_map batch_text (batches ++ b ∷ []) ≡ (((dump_head first ++ flat_map batch_text batches) ++ batch_head m n) ++ flat_map prim_line ps) ++ flat_map prim_line us
    text b us count b_is =
        ap (λ (l : List ℕ). dump_head first ++ l) (flat_map-append batch_text batches (b ∷ []) ∙ ap (λ (l : List ℕ). flat_map batch_text batches ++ l) (append-nil (batch_text b) ∙ ap batch_text b_is ∙ (λ i. batch_head m (count i) ++ flat_map-append prim_line ps us i)))
        ∙ regroup (dump_head first) (flat_map batch_text batches) (batch_head m n) (flat_map prim_line ps) (flat_map prim_line us)
some_tail (closed first batches) (small, each) = ([], (record { first = first; batches = batches }, record { first = small; each = each }, sym (append-nil ((dump_head first ++ flat_map batch_text batches) ++ dump_end (length batches)))))

-- ---- what follows begins with a line

-- the bytes begin with a line that may come
abbrev pub LineFirst : Progress → List ℕ → Type 0
LineFirst p w = (q : Progress) × (a b : List ℕ) × Line p q a × (w ≡ a ++ b)

between_line : (first : ℕ) (batches more : List Batch) (count : ℕ) (w : List ℕ) → AllByRecursion BatchFits more → count ≡ length (batches ++ more) → w ≡ flat_map batch_text more ++ dump_end count → LineFirst (between first batches) w
between_line first batches [] count w each count_is w_is =
    let none : length (batches ++ []) ≡ length batches = ap length (append-nil batches) in
    (closed first batches, w, [], inr (tt, refl, w_is ∙ ap (λ (k : ℕ). dump_end k) (count_is ∙ none)), sym (append-nil w))
between_line first batches (z ∷ zs) count w each count_is w_is = (
  opened first batches z.moment (length z.prims),
  batch_head z.moment (length z.prims),
  flat_map prim_line z.prims ++ (flat_map batch_text zs ++ dump_end count),
  inl ((z.moment, length z.prims), refl, ((each.0.moment, each.0.few), refl)),
  w_is ∙ regroup (batch_head z.moment (length z.prims)) (flat_map prim_line z.prims) (flat_map batch_text zs) (dump_end count),
)
  where
    regroup : (a b c d : List ℕ) → ((a ++ b) ++ c) ++ d ≡ a ++ (b ++ (c ++ d))
    regroup a b c d = simp append_assoc

-- what follows the primitives that were read of a batch, which has more, begins with the line of one
pub within_line : (first : ℕ) (batches : List Batch) (m n : ℕ) (ps : List Primitive) (b : Batch) (x w : List ℕ) → BatchFits b → m ≤ max_moment → n ≤ 4096 → length ps < n → AllByRecursion (PrimitiveFits m) ps
    → (batch_head m n ++ flat_map prim_line ps) ++ w ≡ batch_text b ++ x → LineFirst (within first batches m n ps) w
within_line first batches m n ps b x w fits m_fits n_fits few each is =
    let there : batch_head m n ++ (flat_map prim_line ps ++ w) ≡ batch_head b.moment (length b.prims) ++ (flat_map prim_line b.prims ++ x) =
    sym (append_assoc (batch_head m n) (flat_map prim_line ps) w) ∙ is ∙ append_assoc (batch_head b.moment (length b.prims)) (flat_map prim_line b.prims) x in
    let (same, tail) = opens_same (m, n) (b.moment, length b.prims) _ _ (m_fits, n_fits) (fits.moment, fits.few) there in
    let m_is : m ≡ b.moment = ap (λ p. p.0) same in
    let n_is : n ≡ length b.prims = ap (λ p. p.1) same in
    let all : AllByRecursion (PrimitiveFits m) b.prims = subst (λ (k : ℕ). AllByRecursion (PrimitiveFits k) b.prims) (sym m_is) fits.each in
    let (us, prims_is, w_is) = items_front prim_line (PrimitiveFits m) _ (Sound-prim m).exact ps b.prims x w all each (inl (omega (arith, n_is, few))) (sym tail) in
    next us (ap length prims_is ∙ length-append ps us) (all_behind (PrimitiveFits m) ps us (subst (λ (l : List Primitive). AllByRecursion (PrimitiveFits m) l) prims_is all)) n_is w_is
  where
    next : (us : List Primitive) → length b.prims ≡ length ps + length us → AllByRecursion (PrimitiveFits m) us → n ≡ length b.prims → w ≡ flat_map prim_line us ++ x → LineFirst (within first batches m n ps) w
    next [] long fits n_is w_is = absurd (omega (arith, long, n_is, few))
    next (u ∷ us) long fits n_is w_is = (added first batches m n (ps ++ u ∷ []), prim_line u, flat_map prim_line us ++ x, (u, refl, (fits.0, refl)), w_is ∙ append_assoc (prim_line u) (flat_map prim_line us) x)

-- What follows what was read begins with a line that may come, as long as one is to come.
pub line_first : (p : Progress) → Open p → Read p → (w : List ℕ) → Tail p w → LineFirst p w
line_first opening still read w (d, fits, is) = (between d.first [], dump_head d.first, flat_map batch_text d.batches ++ dump_end (length d.batches), (d.first, refl, (fits.first, refl)), sym is ∙ append_assoc (dump_head d.first) (flat_map batch_text d.batches) (dump_end (length d.batches)))
line_first (between first batches) still (small, each) w (d, fits, is) =
    let r = behind d first batches w fits small each is in
    between_line first batches r.more (length d.batches) w r.each (ap length r.all) r.text
line_first (within first batches m n ps) still ((small, each), (m_fits, n_fits, few, each_prim)) w (d, fits, is) =
    let r = behind d first batches ((batch_head m n ++ flat_map prim_line ps) ++ w) fits small each (is ∙ regroup (dump_head first ++ flat_map batch_text batches) (batch_head m n) (flat_map prim_line ps) w) in
    by r.more r.each r.text
  where
    regroup : (a b c d : List ℕ) → ((a ++ b) ++ c) ++ d ≡ a ++ ((b ++ c) ++ d)
    regroup a b c d = simp append_assoc

    no_end : (count : ℕ) → (batch_head m n ++ flat_map prim_line ps) ++ w ≡ dump_end count → ⊥
    no_end count e = let heads : 98 ≡ 101 = head_same e in omega (arith, heads)

    by : (zs : List Batch) → AllByRecursion BatchFits zs → (batch_head m n ++ flat_map prim_line ps) ++ w ≡ flat_map batch_text zs ++ dump_end (length d.batches) → LineFirst (within first batches m n ps) w
    by [] more e = absurd (no_end (length d.batches) e)
    by (z ∷ zs) more e = within_line first batches m n ps z (flat_map batch_text zs ++ dump_end (length d.batches)) w more.0 m_fits n_fits few each_prim (e ∙ append_assoc (batch_text z) (flat_map batch_text zs) (dump_end (length d.batches)))
line_first (closed first batches) still read w tail = absurd still

-- Nothing follows the last line.
pub ends_there : (first : ℕ) (batches : List Batch) (w : List ℕ) → Read (closed first batches) → Tail (closed first batches) w → w ≡ []
ends_there first batches w (small, each) (d, fits, is) =
    let r = behind d first batches (dump_end (length batches) ++ w) fits small each (is ∙ append_assoc (dump_head first ++ flat_map batch_text batches) (dump_end (length batches)) w) in
    by r.more r.all r.text
  where
    short : (w : List ℕ) → length (dump_end (length batches) ++ w) ≡ length (dump_end (length batches)) → w ≡ []
    short [] long = refl
    short (c ∷ w) long = absurd (omega (arith, long, length-append (dump_end (length batches)) (c ∷ w)))

    by : (zs : List Batch) → d.batches ≡ batches ++ zs → dump_end (length batches) ++ w ≡ flat_map batch_text zs ++ dump_end (length d.batches) → w ≡ []
    by [] all e = short w (ap length e ∙ ap (λ (k : ℕ). length (dump_end k)) (ap length (all ∙ append-nil batches)))
    by (z ∷ zs) all e = absurd (end_no_batch z (length batches) (flat_map batch_text zs ++ dump_end (length d.batches)) w (e ∙ append_assoc (batch_text z) (flat_map batch_text zs) (dump_end (length d.batches))))

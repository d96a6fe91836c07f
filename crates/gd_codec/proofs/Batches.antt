-- Batches and groups are read exactly.
use Rattle.std.proofs.Common.{◌≡◌, refl, ℕ, ◌≤◌, List, [], ◌∷◌, ◌++◌, length, flat_map, Ok, Err, sym, ◌∙◌, ap, subst, arith, ◌-◌, length-append}
use Rattle.std.specs.Int.{bytes_high_first}
use Rattle.gd_prim.specs.declared.Primitive.{Primitive}
use Rattle.gd_prim.specs.declared.Batch.{Batch}
use Rattle.gd_prim.specs.WellFormed.{max_moment}
use Rattle.gd_grammar.specs.Chain.{◌>>=◌}
use Rattle.gd_grammar.specs.Grammar.{Reads, IsText, IsFaultAt, ended, with_offset, whole}
use Rattle.gd_grammar.proofs.Scans.{Then, chain, Says, whole_says, read_all}
use Rattle.gd_bytes.specs.Group.{primitive_bytes, PrimitiveFits, batch_bytes, BatchFits, spelling, Fits}
use Rattle.gd_grammar.specs.Reading.{number_at, items_at}
use Rattle.gd_codec.specs.Groups.{up_to, primitive_at, batch_at, group_at, whole_group_at}
use Rattle.gd_grammar.proofs.Exact.{Exact, Sound, Sound-then, Sound-same, Sound-mapped, Mapped, mapped, join, Items, Exact-items, items_some, exact_scans}
use Rattle.gd_grammar.proofs.Ranges.{InRange, Sound-range}
use Rattle.gd_codec.proofs.Primitives.{Sound-primitive}

-- ---- batches

abbrev pub Moment : ℕ → List ℕ → Type 0
Moment = InRange 0 max_moment 8

abbrev pub Count : ℕ → List ℕ → Type 0
Count = InRange 0 4096 2

-- so many primitives of this moment
abbrev pub Prims : ℕ → ℕ → List Primitive → List ℕ → Type 0
Prims m = Items primitive_bytes (PrimitiveFits m) (primitive_at m) (Sound-primitive m).exact (Sound-primitive m).some

pub sound_prims : (m n : ℕ) → Sound (Prims m n) (items_at (primitive_at m) n)
sound_prims m n = record {
  exact = Exact-items primitive_bytes (PrimitiveFits m) (primitive_at m) (Sound-primitive m).exact (Sound-primitive m).some n;
  some = items_some primitive_bytes (PrimitiveFits m) (primitive_at m) (Sound-primitive m).exact (Sound-primitive m).some n;
}

abbrev pub made : ℕ → List Primitive → Batch
made m ps = record { moment = m; prims = ps }

abbrev pub Counted : ℕ → Batch → List ℕ → Type 0
Counted m = Then Count (λ n. Mapped (made m) (Prims m n))

abbrev pub Parts : Batch → List ℕ → Type 0
Parts = Then Moment Counted

counted : (m : ℕ) → Sound (Counted m) (chain (number_at (up_to 4096) 2) (λ n. mapped (made m) (items_at (primitive_at m) n)))
counted m = Sound-then Count (λ n. Mapped (made m) (Prims m n)) (number_at (up_to 4096) 2) (λ n. mapped (made m) (items_at (primitive_at m) n)) (Sound-range 0 4096 2 (omega arith) refl refl) (λ n w s. Sound-mapped (made m) (Prims m n) (items_at (primitive_at m) n) (sound_prims m n))

parts : Sound Parts batch_at
unfolding batch_at
parts = Sound-then Moment Counted (number_at (up_to max_moment) 8) (λ m. chain (number_at (up_to 4096) 2) (λ n. mapped (made m) (items_at (primitive_at m) n))) (Sound-range 0 max_moment 8 (omega arith) refl refl) (λ m w s. counted m)

abbrev pub Spelled_batch : Batch → List ℕ → Type 0
Spelled_batch = IsText batch_bytes BatchFits

pub to_spelled : (b : Batch) (w : List ℕ) → Parts b w → Spelled_batch b w
to_spelled b w (m, a0, u0, (m_low, m_high, a0_is), (n, a1, u1, (n_low, n_high, a1_is), (ps, b_is, (long, each, u1_is)), u0_is), w_is) =
    subst (λ (x : Batch). Spelled_batch x w) (sym b_is) (
      record { moment = m_high; few = omega (arith, long, n_high); each = each },
      join w_is a0_is (join u0_is (a1_is ∙ ap (λ (k : ℕ). bytes_high_first 2 k) (sym long)) u1_is),
    )

pub from_spelled : (b : Batch) (w : List ℕ) → Spelled_batch b w → Parts b w
from_spelled b w (fits, w_is) = (
  b.moment,
  bytes_high_first 8 b.moment,
  bytes_high_first 2 (length b.prims) ++ flat_map primitive_bytes b.prims,
  (omega arith, fits.moment, refl),
  (length b.prims, bytes_high_first 2 (length b.prims), flat_map primitive_bytes b.prims, (omega arith, fits.few, refl), (b.prims, refl, (refl, fits.each, refl)), refl),
  w_is,
)

pub sound_batch : Sound Spelled_batch batch_at
sound_batch = Sound-same Parts Spelled_batch batch_at to_spelled from_spelled parts

-- ---- groups

abbrev pub Some_count : ℕ → List ℕ → Type 0
Some_count = InRange 1 256 2

abbrev pub Batches : ℕ → List Batch → List ℕ → Type 0
Batches = Items batch_bytes BatchFits batch_at sound_batch.exact sound_batch.some

sound_batches : (n : ℕ) → Sound (Batches n) (items_at batch_at n)
sound_batches n = record { exact = Exact-items batch_bytes BatchFits batch_at sound_batch.exact sound_batch.some n; some = items_some batch_bytes BatchFits batch_at sound_batch.exact sound_batch.some n }

group_parts : Sound (Then Some_count Batches) group_at
unfolding group_at
group_parts = Sound-then Some_count Batches (number_at ((1, 256) ∷ []) 2) (items_at batch_at) (Sound-range 1 256 2 (omega arith) refl refl) (λ n w s. sound_batches n)

pub to_group : (bs : List Batch) (w : List ℕ) → Then Some_count Batches bs w → IsText spelling Fits bs w
to_group bs w (n, a0, u0, (low, high, a0_is), (long, each, u0_is), w_is) =
    (record { some = omega (arith, low, long); few = omega (arith, high, long); each = each }, join w_is (a0_is ∙ ap (λ (k : ℕ). bytes_high_first 2 k) (sym long)) u0_is)

pub from_group : (bs : List Batch) (w : List ℕ) → IsText spelling Fits bs w → Then Some_count Batches bs w
from_group bs w (fits, w_is) = (length bs, bytes_high_first 2 (length bs), flat_map batch_bytes bs, (fits.some, fits.few, refl), (refl, fits.each, refl), w_is)

pub Exact-group : Exact (IsText spelling Fits) group_at
Exact-group = (Sound-same (Then Some_count Batches) (IsText spelling Fits) group_at to_group from_group group_parts).exact

-- Reading gives the batches that the bytes spell, or where no group goes on.
pub group_says : (bytes : List ℕ) → Says spelling Fits bytes (whole group_at bytes)
group_says bytes = whole_says spelling Fits group_at (exact_scans (IsText spelling Fits) group_at Exact-group) bytes

-- The bytes of a group are read as its batches.
pub group_again : (bs : List Batch) (bytes : List ℕ) → IsText spelling Fits bs bytes → group_at bytes ≡ Ok (bs, [])
group_again bs bytes s = read_all spelling Fits group_at (exact_scans (IsText spelling Fits) group_at Exact-group) bs bytes s

-- ---- what the code makes of it

pub group_found : (bytes : List ℕ) (bs : List Batch) → whole_group_at bytes ≡ Ok bs → IsText spelling Fits bs bytes
group_found bytes bs is = subst (Says spelling Fits bytes) (ap (with_offset bytes) is) (group_says bytes)

pub group_bad : (bytes rest : List ℕ) (n : ℕ) → whole_group_at bytes ≡ Err rest → n ≡ length rest → IsFaultAt spelling Fits bytes (length bytes - n)
group_bad bytes rest n is n_is = subst (λ (k : ℕ). IsFaultAt spelling Fits bytes (length bytes - k)) (sym n_is) (subst (Says spelling Fits bytes) (ap (with_offset bytes) is) (group_says bytes))

pub group_whole : (bytes : List ℕ) (bs : List Batch) → IsText spelling Fits bs bytes → whole_group_at bytes ≡ Ok bs
group_whole bytes bs s = ap (λ (r : Reads (List Batch)). r >>= ended) (group_again bs bytes s)

-- what is left is a part of the bytes
pub group_left : (bytes rest : List ℕ) → whole_group_at bytes ≡ Err rest → length rest ≤ length bytes
group_left bytes rest is = by (group_at bytes) refl is
  where
    shorter : (front end : List ℕ) → bytes ≡ front ++ end → length end ≤ length bytes
    shorter front end split = let long = ap length split in let sum = length-append front end in omega (arith, long, sum)

    by : (r : Reads (List Batch)) → group_at bytes ≡ r → (r >>= ended) ≡ Err rest → length rest ≤ length bytes
    by (Ok (bs, [])) e same = cc
    by (Ok (bs, c ∷ cs)) e same =
        let (w, s, split) = Exact-group.found bytes bs (c ∷ cs) e in
        let rest_is : c ∷ cs ≡ rest = cc in
        subst (λ (l : List ℕ). length l ≤ length bytes) rest_is (shorter w (c ∷ cs) split)
    by (Err end) e same =
        let s = Exact-group.stops bytes end e in
        let rest_is : end ≡ rest = cc in
        subst (λ (l : List ℕ). length l ≤ length bytes) rest_is (shorter s.front end s.split)

-- A call that was made is undone, and told.
use Rattle.std.proofs.Common.{◌≡◌, inl, inr, ℕ, ◌+◌, ◌-◌, ◌≤◌, List, [], ◌∷◌, ◌++◌, length, take, drop, refl, sym, ◌∙◌, ap, arith, length-append, length-take, length-drop, length-take-le, take-append-drop}
use Rattle.std.specs.Prelude.{min, max, reverse}
use Rattle.std.proofs.lemmas.Bool.{cases_lt}
use Rattle.std.proofs.lemmas.List.{append-nil, append_assoc, reverse-append, take_at, drop_at, take_all, drop_all, take-take, drop-take, drop-drop}
use Rattle.std.proofs.Math.Seq.{take-append-add}
use Rattle.gd_bytes.specs.Disk.{part, written}
use Rattle.gd_disk.specs.Recorded.{Made, wrote, held}
use Rattle.gd_disk.specs.Calls.{Kept, kept, numbers_of, IsWrite, newest, undone, made_of, first_of}
use Rattle.gd_disk.specs.declared.kept_file.Call.{Call}
use Rattle.gd_disk.specs.declared.kept_file.Call.TheVariants.{Append, Within, Past, Cut, Sync}
use Rattle.gd_disk.proofs.Steps.{torn_written}

-- ---- what a write leaves of the bytes

-- what was written stands there
part_written : (at n : ℕ) (bytes all : List ℕ) → at ≤ length all → n ≡ length bytes → part at n (written at bytes all) ≡ bytes
part_written at n bytes all le is =
    let front : length (take at all) ≡ at = length-take-le at all le in
    ap (λ (l : List ℕ). take n l) (drop_at (take at all) (bytes ++ drop (at + length bytes) all) at front) ∙ take_at bytes (drop (at + length bytes) all) n (sym is)

-- a list in three parts
three : (at over behind : ℕ) (all : List ℕ) → behind ≡ at + over → take at all ++ (part at over all ++ drop behind all) ≡ all
three at over behind all is =
    let back : drop behind all ≡ drop over (drop at all) = ap (λ (n : ℕ). drop n all) is ∙ sym (drop-drop over at all) in
    ap (λ (l : List ℕ). take at all ++ (part at over all ++ l)) back ∙ ap (λ (l : List ℕ). take at all ++ l) (take-append-drop over (drop at all)) ∙ take-append-drop at all

-- what a write replaced stands between what it left
replaced_back : (at over n : ℕ) (all : List ℕ) → at ≤ length all → over ≡ min n (length all - at) → take at all ++ (part at over all ++ drop (at + n) all) ≡ all
replaced_back at over n all le is = elim (cases_lt (length all - at) n) [
  | inr short ↦ three at over (at + n) all (omega arith)
  | inl long ↦
      let none : drop (at + n) all ≡ drop (at + over) all = drop_all (at + n) all (omega arith) ∙ sym (drop_all (at + over) all (omega arith)) in
      ap (λ (l : List ℕ). take at all ++ (part at over all ++ l)) none ∙ three at over (at + over) all refl
]

-- the newest bytes that were replaced
last_replaced : (older last : List ℕ) (n : ℕ) → length last ≡ n → drop (length (older ++ last) - n) (older ++ last) ≡ last
last_replaced older last n is = drop_at older last (length (older ++ last) - n) (omega (arith, length-append older last))

older_replaced : (older last : List ℕ) (n : ℕ) → length last ≡ n → take (length (older ++ last) - n) (older ++ last) ≡ older
older_replaced older last n is = take_at older last (length (older ++ last) - n) (omega (arith, length-append older last))

-- ---- a write more

-- what is kept after a write
abbrev after_write : Call → Kept → ℕ → ℕ → List ℕ → Kept
after_write call k at over bytes = record {
  bytes = written at bytes k.bytes;
  stop = max k.stop (at + length bytes);
  replaced = k.replaced ++ part at over k.bytes;
  numbers = reverse (numbers_of call at over k.stop) ++ k.numbers;
}

same_kept : (b c : List ℕ) (s t : ℕ) (r q n m : List ℕ) → b ≡ c → s ≡ t → r ≡ q → n ≡ m → let x : Kept = record { bytes = b; stop = s; replaced = r; numbers = n } in let y : Kept = record { bytes = c; stop = t; replaced = q; numbers = m } in x ≡ y
same_kept b c s t r q n m be se re ne = cc

part_long : (at over n : ℕ) (all : List ℕ) → at ≤ length all → over ≡ min n (length all - at) → length (part at over all) ≡ over
part_long at over n all le is = omega (arith, length-take over (drop at all), length-drop at all)

write_told : (call : Call) (k : Kept) (at over : ℕ) (bytes : List ℕ) → IsWrite call at (length bytes) k.stop (length k.bytes) → at ≤ k.stop → k.stop ≤ length k.bytes → over ≡ min (length bytes) (length k.bytes - at) → newest call (after_write call k at over bytes) ≡ wrote at bytes
write_told Append k at over bytes is le short min_is =
    ap (λ (l : List ℕ). wrote at l) (drop_at (take at k.bytes) (bytes ++ drop (at + length bytes) k.bytes) at (length-take-le at k.bytes (omega arith)) ∙ ap (λ (l : List ℕ). bytes ++ l) (drop_all (at + length bytes) k.bytes (omega arith)) ∙ append-nil bytes)
write_told Within k at over bytes is le short min_is = ap (λ (l : List ℕ). wrote at l) (part_written at over bytes k.bytes (omega arith) (omega arith))
write_told Past k at over bytes is le short min_is = ap (λ (l : List ℕ). wrote at l) (part_written at (max k.stop (at + length bytes) - at) bytes k.bytes (omega arith) (omega arith))
write_told Cut k at over bytes is le short min_is = absurd is
write_told Sync k at over bytes is le short min_is = absurd is

write_undone : (call : Call) (k : Kept) (at over : ℕ) (bytes : List ℕ) → IsWrite call at (length bytes) k.stop (length k.bytes) → at ≤ k.stop → k.stop ≤ length k.bytes → over ≡ min (length bytes) (length k.bytes - at) → undone call (after_write call k at over bytes) ≡ k
write_undone Append k at over bytes is le short min_is =
    let all = k.bytes in
    let none : part at over all ≡ [] = ap (λ (l : List ℕ). take over l) (drop_all at all (omega arith)) ∙ take_all over [] (omega arith) in
    same_kept _ all _ k.stop _ k.replaced _ k.numbers
    ((torn_written at bytes all (omega arith)).before ∙ take_all at all (omega arith))
    (omega arith)
    (ap (λ (l : List ℕ). k.replaced ++ l) none ∙ append-nil k.replaced)
    refl
write_undone Within k at over bytes is le short min_is =
    let all = k.bytes in
    let last = part at over all in
    let long = part_long at over (length bytes) all (omega arith) min_is in
    let torn = torn_written at bytes all (omega arith) in
    let same : at + over ≡ at + length bytes = omega arith in
    same_kept _ all _ k.stop _ k.replaced _ k.numbers
    (ap (λ (l : List ℕ). l ++ (drop (length (k.replaced ++ last) - over) (k.replaced ++ last) ++ drop (at + over) (written at bytes all))) torn.before
    ∙ ap (λ (l : List ℕ). take at all ++ (l ++ drop (at + over) (written at bytes all))) (last_replaced k.replaced last over long)
    ∙ ap (λ (n : ℕ). take at all ++ (last ++ drop n (written at bytes all))) same
    ∙ ap (λ (l : List ℕ). take at all ++ (last ++ l)) torn.after
    ∙ replaced_back at over (length bytes) all (omega arith) min_is)
    (omega arith)
    (older_replaced k.replaced last over long)
    refl
write_undone Past k at over bytes is le short min_is =
    let all = k.bytes in
    let last = part at over all in
    let long = part_long at over (length bytes) all (omega arith) min_is in
    let torn = torn_written at bytes all (omega arith) in
    let same : max k.stop (at + length bytes) ≡ at + length bytes = omega arith in
    same_kept _ all _ k.stop _ k.replaced _ k.numbers
    (ap (λ (l : List ℕ). l ++ (drop (length (k.replaced ++ last) - over) (k.replaced ++ last) ++ drop (max k.stop (at + length bytes)) (written at bytes all))) torn.before
    ∙ ap (λ (l : List ℕ). take at all ++ (l ++ drop (max k.stop (at + length bytes)) (written at bytes all))) (last_replaced k.replaced last over long)
    ∙ ap (λ (n : ℕ). take at all ++ (last ++ drop n (written at bytes all))) same
    ∙ ap (λ (l : List ℕ). take at all ++ (last ++ l)) torn.after
    ∙ replaced_back at over (length bytes) all (omega arith) min_is)
    refl
    (older_replaced k.replaced last over long)
    refl
write_undone Cut k at over bytes is le short min_is = absurd is
write_undone Sync k at over bytes is le short min_is = absurd is

-- ---- behind what was there

newest_first : (calls new : List Call) (call : Call) → new ≡ calls ++ call ∷ [] → reverse new ≡ call ∷ reverse calls
newest_first calls new call is = ap (λ (l : List Call). reverse l) is ∙ reverse-append calls (call ∷ [])

-- a call more is told
pub more_made : (k now : Kept) (calls new : List Call) (call : Call) (made : Made) → newest call now ≡ made → undone call now ≡ k → new ≡ calls ++ call ∷ [] → made_of now (reverse new) ≡ made ∷ made_of k (reverse calls)
more_made k now calls new call made told back is =
    ap (λ (l : List Call). made_of now l) (newest_first calls new call is)
    ∙ ap (λ (m : Made). m ∷ made_of (undone call now) (reverse calls)) told
    ∙ ap (λ (b : Kept). made ∷ made_of b (reverse calls)) back

-- and the first content stays
pub more_first : (k now : Kept) (calls new : List Call) (call : Call) → undone call now ≡ k → new ≡ calls ++ call ∷ [] → first_of now (reverse new) ≡ first_of k (reverse calls)
more_first k now calls new call back is =
    ap (λ (l : List Call). first_of now l) (newest_first calls new call is)
    ∙ ap (λ (b : Kept). first_of b (reverse calls)) back

-- what is kept after a write, by the parts
pub record IsWritten (k now : Kept) (call : Call) (at over : ℕ) (bytes : List ℕ) : Type 0 where
  pub told : newest call now ≡ wrote at bytes
  pub back : undone call now ≡ k

pub is_written : (all all_new replaced replaced_new numbers numbers_new bytes : List ℕ) (stop stop_new at over : ℕ) (call : Call) → IsWrite call at (length bytes) stop (length all) → at ≤ stop → stop ≤ length all → over ≡ min (length bytes) (length all - at)
    → all_new ≡ written at bytes all → stop_new ≡ max stop (at + length bytes) → replaced_new ≡ replaced ++ part at over all → numbers_new ≡ numbers ++ numbers_of call at over stop
    → IsWritten (kept all stop replaced numbers) (kept all_new stop_new replaced_new numbers_new) call at over bytes
is_written all all_new replaced replaced_new numbers numbers_new bytes stop stop_new at over call is le short min_is all_is stop_is replaced_is numbers_is =
    let k : Kept = kept all stop replaced numbers in
    let now : kept all_new stop_new replaced_new numbers_new ≡ after_write call k at over bytes =
    same_kept all_new (written at bytes all) stop_new (max stop (at + length bytes)) replaced_new (replaced ++ part at over all) (reverse numbers_new) (reverse (numbers_of call at over stop) ++ reverse numbers)
    all_is stop_is replaced_is (ap (λ (l : List ℕ). reverse l) numbers_is ∙ reverse-append numbers (numbers_of call at over stop)) in
    record {
      told = ap (λ (b : Kept). newest call b) now ∙ write_told call k at over bytes is le short min_is;
      back = ap (λ (b : Kept). undone call b) now ∙ write_undone call k at over bytes is le short min_is;
    }

-- the file after a write
pub written_front : (all bytes : List ℕ) (at stop : ℕ) → at ≤ stop → stop ≤ length all → take (max stop (at + length bytes)) (written at bytes all) ≡ written at bytes (take stop all)
written_front all bytes at stop le short =
    let n = at + length bytes in
    let front = take at all ++ bytes in
    let long : length front ≡ n = omega (arith, length-append (take at all) bytes, length-take-le at all (omega arith)) in
    let split : written at bytes all ≡ front ++ drop n all = sym (append_assoc (take at all) bytes (drop n all)) in
    let same : take at (take stop all) ≡ take at all = take-take at stop all le in
    elim (cases_lt n stop) [
      | inr past ↦
          let whole : max stop n ≡ n = omega arith in
          let none : drop n (take stop all) ≡ [] = drop_all n (take stop all) (omega (arith, length-take stop all)) in
          ap (λ (m : ℕ). take m (written at bytes all)) whole ∙ ap (λ (l : List ℕ). take n l) split ∙ take_at front (drop n all) n long
          ∙ ap (λ (l : List ℕ). take at all ++ l) (sym (append-nil bytes)) ∙ ap (λ (l : List ℕ). l ++ (bytes ++ [])) (sym same) ∙ ap (λ (l : List ℕ). take at (take stop all) ++ (bytes ++ l)) (sym none)
      | inl within ↦
          let m = stop - n in
          let stop_is : stop ≡ n + m = omega arith in
          let whole : max stop n ≡ length front + m = omega arith in
          let back : drop n (take stop all) ≡ take m (drop n all) = ap (λ (j : ℕ). drop n (take j all)) stop_is ∙ drop-take n m all in
          ap (λ (j : ℕ). take j (written at bytes all)) whole ∙ ap (λ (l : List ℕ). take (length front + m) l) split ∙ take-append-add front (drop n all) m
          ∙ append_assoc (take at all) bytes (take m (drop n all)) ∙ ap (λ (l : List ℕ). l ++ (bytes ++ take m (drop n all))) (sym same) ∙ ap (λ (l : List ℕ). take at (take stop all) ++ (bytes ++ l)) (sym back)
    ]

pub range_part : (all bytes : List ℕ) (at over : ℕ) → bytes ≡ all → take (at + over - at) (drop at bytes) ≡ part at over all
range_part all bytes at over is = let same : at + over - at ≡ over = omega arith in ap (λ (n : ℕ). take n (drop at bytes)) same ∙ ap (λ (l : List ℕ). part at over l) is

-- what is kept is still the file that the calls make
pub file_written : (first first_new all all_new bytes : List ℕ) (made made_new : List Made) (at stop stop_new : ℕ) → at ≤ stop → stop ≤ length all → take stop all ≡ held first made → all_new ≡ written at bytes all → stop_new ≡ max stop (at + length bytes)
    → first_new ≡ first → made_new ≡ wrote at bytes ∷ made → (stop_new ≤ length all_new) × (take stop_new all_new ≡ held first_new made_new)
file_written first first_new all all_new bytes made made_new at stop stop_new le short was all_is stop_is first_is made_is =
    let long : length (written at bytes all) ≡ at + (length bytes + (length all - (at + length bytes))) =
    omega (arith, length-append (take at all) (bytes ++ drop (at + length bytes) all), length-append bytes (drop (at + length bytes) all), length-take at all, length-drop (at + length bytes) all, le, short) in (
      omega (arith, ap length all_is, long, stop_is, short),
      ap (λ (n : ℕ). take n all_new) stop_is ∙ ap (λ (l : List ℕ). take (max stop (at + length bytes)) l) all_is ∙ written_front all bytes at stop le short
          ∙ ap (λ (l : List ℕ). written at bytes l) (was ∙ ap (λ (f : List ℕ). held f made) (sym first_is)) ∙ ap (λ (l : List Made). held first_new l) (sym made_is),
    )

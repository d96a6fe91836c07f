-- What counting the replies to lines comes to.
use Rattle.std.proofs.Common.{◌≡◌, inl, inr, sym, ap, subst, refl, ◌∙◌, ℕ, zero, suc, ◌+◌, ◌<◌, ◌≤◌, List, [], ◌∷◌, ◌++◌, length, map, replicate, Bool, true, false, ◌&&◌, ◌==◌, Option, Some, None, Ok, min, arith}
use Rattle.std.specs.Prelude.{IfSome, MatchBool, slice_get, slice_set, sum, if◌then◌else◌}
use Rattle.std.proofs.lemmas.Bool.Decides.{nat_tests}
use Rattle.std.proofs.lemmas.List.Sums.{sum_by-cons}
use Rattle.gd_grammar.proofs.Steps.{some_same, not_some}
use Rattle.gd_runs.specs.Request.{ReadSet, read}
use Rattle.gd_runs.specs.Input.{line_from}
use Rattle.gd_cache.specs.declared.key.ReplyKey.{ReplyKey}
use Rattle.gd_cache.specs.declared.key.Kept.{Kept}
use Rattle.gd_cache.specs.Asked.{key_of}
use Rattle.gd_cache.specs.Hits.{hits_of}
use Rattle.gd_cache.specs.Right.{is_ok}
use Rattle.gd_cache.specs.Shown.{Shown, one_more, empty, CountsAll, call_of}
use Rattle.gd_cache.proofs.Counted.{hits_are_those, all_later}
use Rattle.gd_lookup.proofs.Counted.{answer_counts}
use Rattle.gd_lookup.specs.Keeping.{KeepingValue, CountsOne, CountsAnswer, CountsIn}
use Rattle.gd_lookup.specs.Calls.{reader_of, is_answered, CountsRead, CountsLine, CountsLines, most_count, answered_count, is_answered_for, AreReads, HasHits, AreCounts}

-- ---- lines one after another

-- lines that follow others
pub lines_append : (k : ℕ) (bs rs cs ts : List (List ℕ)) (old mid new : KeepingValue) → length rs ≡ length bs → CountsLines k bs rs old mid → CountsLines (k + length bs) cs ts mid new → CountsLines k (bs ++ cs) (rs ++ ts) old new
lines_append k [] [] cs ts old mid new same first rest = subst (λ (o : KeepingValue). CountsLines k cs ts o new) first (subst (λ (n : ℕ). CountsLines n cs ts mid new) (omega arith) rest)
lines_append k [] (r ∷ rs) cs ts old mid new same first rest = absurd first
lines_append k (b ∷ bs) [] cs ts old mid new same first rest = absurd first
lines_append k (b ∷ bs) (r ∷ rs) cs ts old mid new same (next, one, more) rest = (next, one, lines_append (k + 1) bs rs cs ts next mid new (omega (arith, same)) more (subst (λ (n : ℕ). CountsLines n cs ts mid new) (omega arith) rest))

-- ---- there are as many caches

set_length : (xs : List Shown) (i : ℕ) (x : Shown) → length (slice_set xs i x) ≡ length xs
set_length [] i x = refl
set_length (y ∷ xs) zero x = refl
set_length (y ∷ xs) (suc i) x = ap suc (set_length xs i x)

line_stays : (b : Bool) (k : ℕ) (bytes reply : List ℕ) (old new : KeepingValue) → MatchBool b (CountsRead k bytes reply old new) (new ≡ old) → length new.caches ≡ length old.caches
line_stays false k bytes reply old new same = ap (λ (v : KeepingValue). length v.caches) same
line_stays true k bytes reply old new of = by old.caches refl
  where
    counted : (b : Bool) → MatchBool b (CountsAnswer old of.session of.key k reply new) (new ≡ old) → length new.caches ≡ length old.caches
    counted true counts = ap length counts.caches ∙ set_length old.caches of.session counts.now
    counted false same = ap (λ (v : KeepingValue). length v.caches) same

    by : (caches : List Shown) → old.caches ≡ caches → length new.caches ≡ length old.caches
    by [] none = ap (λ (v : KeepingValue). length v.caches) (subst (λ cs. CountsIn cs old of.session of.key k reply new) none of.counts)
    by (s ∷ ss) some = counted (is_ok reply) (subst (λ cs. CountsIn cs old of.session of.key k reply new) some of.counts)

-- however many lines are counted
pub caches_stay : (k : ℕ) (bs rs : List (List ℕ)) (old new : KeepingValue) → CountsLines k bs rs old new → length new.caches ≡ length old.caches
caches_stay k [] [] old new is = ap (λ (v : KeepingValue). length v.caches) is
caches_stay k [] (r ∷ rs) old new counts = absurd counts
caches_stay k (b ∷ bs) [] old new counts = absurd counts
caches_stay k (b ∷ bs) (r ∷ rs) old new (next, one, rest) = caches_stay (k + 1) bs rs next new rest ∙ line_stays (is_answered b r) k b r old next one

-- ---- how many were answered

one_of : (b : Bool) (k : ℕ) (bytes reply : List ℕ) (old new : KeepingValue) → (old.caches ≡ [] → ⊥) → is_answered bytes reply ≡ b → MatchBool b (CountsRead k bytes reply old new) (new ≡ old) → (length new.caches ≡ length old.caches) × (new.reads ≡ (if b then one_more old.reads else old.reads))
one_of false k bytes reply old new some is same = (ap (λ (v : KeepingValue). length v.caches) same, ap (λ (v : KeepingValue). v.reads) same)
one_of true k bytes reply old new some is of =
    let counts = answer_counts old new of.session of.key k reply (λ none. some (nothing old.caches none)) ok of.counts in (ap length counts.caches ∙ set_length old.caches of.session counts.now, counts.reads)
  where
    ok : is_ok reply ≡ true
    ok = answer (reader_of bytes) refl
      where
        answer : (o : Option ℕ) → reader_of bytes ≡ o → is_ok reply ≡ true
        answer None none = absurd (let never = (rw none at is) in cc)
        answer (Some s) some = (rw some at is)

    nothing : (xs : List Shown) → length xs ≡ 0 → xs ≡ []
    nothing [] none = refl
    nothing (x ∷ xs) none = absurd (omega (arith, none))

long_some : (xs ys : List Shown) → length ys ≡ length xs → (xs ≡ [] → ⊥) → ys ≡ [] → ⊥
long_some [] ys same some none = some refl
long_some (x ∷ xs) [] same some none = absurd (omega (arith, same))
long_some (x ∷ xs) (y ∷ ys) same some none = cc

-- as many reads were counted as were answered
reads_counted : (k : ℕ) (bs rs : List (List ℕ)) (old new : KeepingValue) → (old.caches ≡ [] → ⊥) → old.reads ≤ most_count → CountsLines k bs rs old new → (length new.caches ≡ length old.caches) × (new.reads ≡ min (old.reads + answered_count bs rs) most_count)
reads_counted k [] [] old new some few is = (ap (λ (v : KeepingValue). length v.caches) is, (let same = ap (λ (v : KeepingValue). v.reads) is in omega (arith, same, few)))
reads_counted k [] (r ∷ rs) old new some few counts = absurd counts
reads_counted k (b ∷ bs) [] old new some few counts = absurd counts
reads_counted k (b ∷ bs) (r ∷ rs) old new some few (next, one, rest) =
    let (long, here) = one_of (is_answered b r) k b r old next some refl one in
    let low : next.reads ≤ most_count = by_low (is_answered b r) here in
    let (longer, ih) = reads_counted (k + 1) bs rs next new (long_some old.caches next.caches long some) low rest in
    (longer ∙ long, by_count (is_answered b r) here ih)
  where
    by_low : (c : Bool) → next.reads ≡ (if c then one_more old.reads else old.reads) → next.reads ≤ most_count
    by_low true is = omega (arith, is)
    by_low false is = omega (arith, is, few)

    by_count : (c : Bool) → next.reads ≡ (if c then one_more old.reads else old.reads) → new.reads ≡ min (next.reads + answered_count bs rs) most_count → new.reads ≡ min (old.reads + ((if c then 1 else 0) + answered_count bs rs)) most_count
    by_count true is ih = omega (arith, is, ih)
    by_count false is ih = omega (arith, is, ih)

-- ---- the reads of a session

get_set : (xs : List Shown) (i j : ℕ) (x y : Shown) → slice_get xs j ≡ Some y → (i ≡ j → ⊥) → slice_get (slice_set xs i x) j ≡ Some y
get_set [] i j x y at other = at
get_set (z ∷ xs) zero zero x y at other = absurd (other refl)
get_set (z ∷ xs) zero (suc j) x y at other = at
get_set (z ∷ xs) (suc i) zero x y at other = at
get_set (z ∷ xs) (suc i) (suc j) x y at other = get_set xs i j x y at (λ is. other (ap suc is))

get_here : (xs : List Shown) (i : ℕ) (x y : Shown) → slice_get xs i ≡ Some y → slice_get (slice_set xs i x) i ≡ Some x
get_here [] i x y at = not_some y at
get_here (z ∷ xs) zero x y at = refl
get_here (z ∷ xs) (suc i) x y at = get_here xs i x y at

get_less : (xs : List Shown) (i : ℕ) (x : Shown) → slice_get xs i ≡ Some x → i < length xs
get_less [] i x at = not_some x at
get_less (y ∷ xs) zero x at = omega arith
get_less (y ∷ xs) (suc i) x at = let less = get_less xs i x at in omega (arith, less)

-- a cache of a session after lines, of which its reads were counted if no put was refused
record Session (s k : ℕ) (bs rs : List (List ℕ)) (old : Shown) (caches : List Shown) : Type 0 where
  now : Shown
  there : slice_get caches s ≡ Some now
  counted : now.refused ≡ 0 → (reads : List (ReplyKey × Kept)) × AreReads s k bs rs reads × CountsAll old reads now

refused_none : (n : ℕ) → one_more n ≡ 0 → ⊥
refused_none n is = omega (arith, is)

-- no put had been refused before, where none is in the end
none_before : (s k : ℕ) (bs rs : List (List ℕ)) (c : Shown) (caches : List Shown) → (end : Session s k bs rs c caches) → end.now.refused ≡ 0 → c.refused ≡ 0
none_before s k bs rs c caches end none = let (reads, are, all) = end.counted none in all_later reads c end.now all none

same_numbers : (a b : ℕ) → (a == b) ≡ true → a ≡ b
same_numbers a b is = grind (arith, nat_tests)

not_same : (a b : ℕ) → a ≡ b → (a == b) ≡ false → ⊥
not_same a b same other = grind (arith, nat_tests)

module _ (s k : ℕ) (b r : List ℕ) (bs rs : List (List ℕ)) (old next new : KeepingValue) (c : Shown) (at : slice_get old.caches s ≡ Some c) (again : (d : Shown) → slice_get next.caches s ≡ Some d → Session s (k + 1) bs rs d new.caches) where
  -- nothing was counted for the session
  passes : is_answered_for s b r ≡ false → slice_get next.caches s ≡ Some c → Session s k (b ∷ bs) (r ∷ rs) c new.caches
  passes other there =
      let end = again c there in record {
        now = end.now;
        there = end.there;
        counted = λ none. let (reads, are, all) = end.counted none in (reads, rw other are, all);
      }

  stays : is_answered_for s b r ≡ false → next ≡ old → Session s k (b ∷ bs) (r ∷ rs) c new.caches
  stays other same = passes other (ap (λ (v : KeepingValue). slice_get v.caches s) same ∙ at)

  -- a read of it was
  takes : (key : Option (List ℕ)) → IfSome key (λ text. key_of b ≡ Some text) → is_answered_for s b r ≡ true → CountsAnswer old s key k r next → Session s k (b ∷ bs) (r ∷ rs) c new.caches
  takes key key_is ok counts = cases (subst (λ (x : Shown). CountsOne x key k r counts.now) same counts.counts)
    where
      same : counts.cache ≡ c
      same = some_same counts.cache c (sym counts.there ∙ at)

      there : slice_get next.caches s ≡ Some counts.now
      there = ap (λ (cs : List Shown). slice_get cs s) counts.caches ∙ get_here old.caches s counts.now c at

      end : Session s (k + 1) bs rs counts.now new.caches
      end = again counts.now there

      cases : CountsOne c key k r counts.now → Session s k (b ∷ bs) (r ∷ rs) c new.caches
      cases (inl (text, d, kept, key_text, reply, plain, did)) = record {
        now = end.now;
        there = end.there;
        counted = λ none.
            let (reads, are, all) = end.counted none in
            let this : ReplyKey × Kept = (record { text = text; dateline = d }, kept) in
            (this ∷ reads, rw ok (this, reads, refl, record { text = subst (λ (o : Option (List ℕ)). IfSome o (λ t. key_of b ≡ Some t)) key_text key_is; line = reply; plain = plain }, are), (counts.now, did, all));
      }
      cases (inr refused) = record {
        now = end.now;
        there = end.there;
        counted = λ none. let zero_now = none_before s (k + 1) bs rs counts.now new.caches end none in absurd (refused_none c.refused (sym (ap (λ (x : Shown). x.refused) refused) ∙ zero_now));
      }

  some_cache : length old.caches ≡ 0 → ⊥
  some_cache none = let less = get_less old.caches s c at in omega (arith, less, none)

  -- an answer to a read was counted
  counted_read : (i : ℕ) → reader_of b ≡ Some i → is_ok r ≡ true → CountsRead k b r old next → Session s k (b ∷ bs) (r ∷ rs) c new.caches
  counted_read i is ok of = by (i == s) refl
    where
      counts : CountsAnswer old of.session of.key k r next
      counts = answer_counts old next of.session of.key k r some_cache ok of.counts

      asked : (m : ℕ) (q : ReadSet) → line_from b ≡ Ok (read m q) → reader_of b ≡ Some m
      asked m q asks = rw asks refl

      who : i ≡ of.session
      who = some_same i of.session (sym is ∙ asked of.session of.request of.asks)

      by : (t : Bool) → (i == s) ≡ t → Session s k (b ∷ bs) (r ∷ rs) c new.caches
      by true here = takes of.key of.key_is (rw is (rw here (rw ok refl))) (subst (λ (n : ℕ). CountsAnswer old n of.key k r next) (sym who ∙ same_numbers i s here) counts)
      by false other = passes (rw is (rw other refl)) (ap (λ (cs : List Shown). slice_get cs s) counts.caches ∙ get_set old.caches of.session s counts.now c at (λ e. not_same i s (who ∙ e) other))

  one_line : CountsLine k b r old next → Session s k (b ∷ bs) (r ∷ rs) c new.caches
  one_line one = by (reader_of b) refl
    where
      by_ok : (i : ℕ) → reader_of b ≡ Some i → (ok : Bool) → is_ok r ≡ ok → Session s k (b ∷ bs) (r ∷ rs) c new.caches
      by_ok i is false other = stays (rw is (rw other (by_and (i == s)))) (rw other at (rw is at one))
        where
          by_and : (t : Bool) → (t && false) ≡ false
          by_and true = refl
          by_and false = refl
      by_ok i is true ok = counted_read i is ok (rw ok at (rw is at one))

      by : (o : Option ℕ) → reader_of b ≡ o → Session s k (b ∷ bs) (r ∷ rs) c new.caches
      by None none = stays (rw none refl) (rw none at one)
      by (Some i) is = by_ok i is (is_ok r) refl

session_counted : (s k : ℕ) (bs rs : List (List ℕ)) (old new : KeepingValue) (c : Shown) → slice_get old.caches s ≡ Some c → CountsLines k bs rs old new → Session s k bs rs c new.caches
session_counted s k [] [] old new c at is = record { now = c; there = ap (λ (v : KeepingValue). slice_get v.caches s) is ∙ at; counted = λ none. ([], refl, refl) }
session_counted s k [] (r ∷ rs) old new c at counts = absurd counts
session_counted s k (b ∷ bs) [] old new c at counts = absurd counts
session_counted s k (b ∷ bs) (r ∷ rs) old new c at (next, one, rest) = one_line s k b r bs rs old next new c at (λ d there. session_counted s (k + 1) bs rs next new d there rest) one

-- ---- all sessions

get_replicate : (m i : ℕ) (x : Shown) → i < m → slice_get (replicate m x) i ≡ Some x
get_replicate zero i x less = absurd (omega (arith, less))
get_replicate (suc m) zero x less = refl
get_replicate (suc m) (suc i) x less = get_replicate m i x (omega (arith, less))

none_of : (caches : List Shown) (i : ℕ) (c : Shown) → sum (map (λ s. s.refused) caches) ≡ 0 → slice_get caches i ≡ Some c → c.refused ≡ 0
none_of [] i c none at = not_some c at
none_of (x ∷ xs) zero c none at = let same = ap (λ (s : Shown). s.refused) (some_same x c at) in let parts = sum_by-cons (λ (n : ℕ). n) x.refused (map (λ (s : Shown). s.refused) xs) in omega (arith, none, parts, same)
none_of (x ∷ xs) (suc i) c none at = none_of xs i c (let parts = sum_by-cons (λ (n : ℕ). n) x.refused (map (λ (s : Shown). s.refused) xs) in omega (arith, none, parts)) at

-- the hits of each session, where each cache has those of its reads
record Each (n : ℕ) (bs rs : List (List ℕ)) (s : ℕ) (caches : List Shown) : Type 0 where
  each : List ℕ
  long : length each ≡ length caches
  has : (i h : ℕ) → slice_get each i ≡ Some h → HasHits n bs rs (s + i) h
  all : min (sum (map (λ c. c.hits) caches)) most_count ≡ min (sum each) most_count

joined : (a b h e x y : ℕ) → x ≡ a + b → y ≡ h + e → a ≡ min h most_count → min b most_count ≡ min e most_count → min x most_count ≡ min y most_count
joined a b h e x y one other first rest = omega (arith, one, other, first, rest)

hits_each : (n : ℕ) (bs rs : List (List ℕ)) (s : ℕ) (caches : List Shown) → ((i : ℕ) (c : Shown) → slice_get caches i ≡ Some c → (h : ℕ) × HasHits n bs rs (s + i) h × (c.hits ≡ min h most_count)) → Each n bs rs s caches
hits_each n bs rs s [] of = record { each = []; long = refl; has = λ i h at. absurd (cc); all = refl }
hits_each n bs rs s (c ∷ cs) of =
    let (h, has, is) = of 0 c refl in
    let rest = hits_each n bs rs (s + 1) cs (λ i x at. let (g, hits, same) = of (suc i) x at in (g, subst (λ (m : ℕ). HasHits n bs rs m g) (omega arith) hits, same)) in
    let long = rest.long in
    let all = rest.all in
    record {
      each = h ∷ rest.each;
      long = omega (arith, long);
      has = λ i g at. here rest.each h has rest.has i g at;
      all = joined c.hits (sum (map (λ x. x.hits) cs)) h (sum rest.each) (sum (map (λ x. x.hits) (c ∷ cs))) (sum (h ∷ rest.each)) (sum_by-cons (λ (n : ℕ). n) c.hits (map (λ (x : Shown). x.hits) cs)) (sum_by-cons (λ (n : ℕ). n) h rest.each) is all;
    }
  where
    here : (each : List ℕ) (h : ℕ) → HasHits n bs rs (s + 0) h → ((i g : ℕ) → slice_get each i ≡ Some g → HasHits n bs rs ((s + 1) + i) g) → (i g : ℕ) → slice_get (h ∷ each) i ≡ Some g → HasHits n bs rs (s + i) g
    here each h first later zero g at = subst (HasHits n bs rs (s + 0)) (some_same h g at) first
    here each h first later (suc i) g at = subst (λ (m : ℕ). HasHits n bs rs m g) (omega arith) (later i g at)

-- LAW: from caches without any reply the counts are those of the reads that were answered
pub counts_are : (n : ℕ) (bs rs : List (List ℕ)) (new : KeepingValue) → 0 < n → CountsLines 0 bs rs (record { caches = replicate 64 (empty n); reads = 0 }) new
    → AreCounts n bs rs (min (sum (map (λ s. s.hits) new.caches)) most_count) new.reads (min (sum (map (λ s. s.refused) new.caches)) most_count)
counts_are n bs rs new some counts =
    let old : KeepingValue = record { caches = replicate 64 (empty n); reads = 0 } in
    let (long, reads) = reads_counted 0 bs rs old new (λ none. absurd (cc)) (omega arith) counts in
    record {
      reads_are = reads ∙ ap (λ (m : ℕ). min m most_count) (omega arith);
      hits_are = λ none.
          let each = hits_each n bs rs 0 new.caches (of (omega (arith, none)) long) in
          let many = each.long in
          (each.each, many ∙ long, (λ s h at. subst (λ (m : ℕ). HasHits n bs rs m h) (omega arith) (each.has s h at)), each.all);
    }
  where
    of : sum (map (λ s. s.refused) new.caches) ≡ 0 → length new.caches ≡ 64 → (i : ℕ) (c : Shown) → slice_get new.caches i ≡ Some c → (h : ℕ) × HasHits n bs rs (0 + i) h × (c.hits ≡ min h most_count)
    of none long i c at =
        let less = get_less new.caches i c at in
        let end = session_counted i 0 bs rs (record { caches = replicate 64 (empty n); reads = 0 }) new (empty n) (get_replicate 64 i (empty n) (omega (arith, less, long))) counts in
        let same : end.now ≡ c = some_same end.now c (sym end.there ∙ at) in
        let free : end.now.refused ≡ 0 = none_of new.caches i end.now none end.there in
        let (reads, are, all) = end.counted free in
        (hits_of (map call_of reads) n, subst (λ (m : ℕ). HasHits n bs rs m (hits_of (map call_of reads) n)) (omega arith) (reads, are, refl), sym (ap (λ (x : Shown). x.hits) same) ∙ hits_are_those n reads end.now some all free)

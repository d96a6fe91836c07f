-- A matcher is never at a loss: from its start it comes by moves to its end.
use Rattle.std.proofs.Common.{◌≡◌, ℕ, ◌+◌, List, [], ◌∷◌, ◌++◌, Bool, true, false, length, Option, Some, None, refl, ap, sym, subst, ◌∙◌}
use Rattle.std.specs.Prelude.{map, option_map, if◌then◌else◌}
use Rattle.std.specs.Ordering.{nat_cmp}
use Rattle.std.proofs.lemmas.Bool.{false≢true, and_parts}
use Rattle.std.proofs.lemmas.List.{append-nil}
use Rattle.gd_prim.specs.declared.Primitive.{Primitive}
use Rattle.gd_tree.specs.Trees.{tree, Trees, no_trees, and_tree, TreeLists, no_lists, and_list, append, has_list}
use Rattle.gd_defs.specs.Query.{Mode}
use Rattle.gd_defs.specs.Template.{Constraint, Template, template, Clauses, no_clauses, clause, Hop, led_to, meets_constraints, passes_template, tree_of, one_for_links}
use Rattle.gd_scan_laws.specs.PassedOn.{IterAt, Frame, Scan, ScanOrder, Candidate, candidate, candidates_from, with_list, tried, owed_by, MembersOf, iter_fits, frames_fit, frame_lists_fit, stack_fits, scan_fits, Rising}
use Rattle.gd_match_laws.specs.Moves.{passing_from, order_from, is_given, stops, appended, fresh, Ends, nothing_asked, last_ends, required_unmet, later_ends, FrameMoves, begins, descends, takes, below_moves, below_ends, next_begins, later_moves, StackMoves, frame_moves, picks, frames_move, gives, Runs, stays, moves}
use Rattle.gd_match_laws.proofs.First.{next_left, led-rise, Rising-mapped}
use Rattle.gd_match_laws.proofs.Scans.{run-keeps, whole-run}

-- the frame of a place at an iterator's position, with lists
abbrev pub framed : ℕ → IterAt → TreeLists → Frame
framed p i ls = record { place = p; iter = i; lists = ls }

-- an iterator at a place
abbrev pub iter_at : ℕ → IterAt
iter_at n = record { place = n; accepted = None }

-- a frame comes by moves from lists and frames below it to others, whatever it adds to the weight
pub data FrameGoes (prims : List Primitive) (asked : Clauses) (p : ℕ) : IterAt → Trees → TreeLists → List Frame → IterAt → Trees → TreeLists → List Frame → Type 0 where
  still : (i : IterAt) (us : Trees) (ls : TreeLists) (gs : List Frame) → FrameGoes prims asked p i us ls gs i us ls gs
  goes_then : (i j l : IterAt) (us vs ws : Trees) (ls ks ms : TreeLists) (gs hs es : List Frame) (d : ℕ) → ((whole : TreeLists) → FrameMoves prims asked (framed p i whole) (and_list us ls) gs d j (and_list vs ks) hs)
      → FrameGoes prims asked p j vs ks hs l ws ms es → FrameGoes prims asked p i us ls gs l ws ms es

-- frames come by moves to others
pub data StackGoes (prims : List Primitive) (t : Template) : List Frame → List Frame → Type 0 where
  stack_still : (gs : List Frame) → StackGoes prims t gs gs
  stack_then : (gs hs es : List Frame) (d : ℕ) → StackMoves prims t gs d hs → StackGoes prims t hs es → StackGoes prims t gs es

module _ (prims : List Primitive) where
  goes-on : (asked : Clauses) (p : ℕ) (i : IterAt) (us : Trees) (ls : TreeLists) (gs : List Frame) (j : IterAt) (vs : Trees) (ks : TreeLists) (hs : List Frame) (l : IterAt) (ws : Trees) (ms : TreeLists) (es : List Frame)
      → FrameGoes prims asked p i us ls gs j vs ks hs → FrameGoes prims asked p j vs ks hs l ws ms es → FrameGoes prims asked p i us ls gs l ws ms es
  goes-on asked p _ _ _ _ _ _ _ _ l ws ms es (still i us ls gs) more = more
  goes-on asked p _ _ _ _ _ _ _ _ l ws ms es (goes_then i j m us vs xs ls ks ns gs hs fs d step rest) more =
      goes_then i j l us vs ws ls ks ms gs hs es d step (goes-on asked p j vs ks hs m xs ns fs l ws ms es rest more)

  -- behind a finished clause
  later-goes : (mode : Mode) (hop : Hop) (t : Template) (rest : Clauses) (p : ℕ) (ts : Trees) (i : IterAt) (us : Trees) (ls : TreeLists) (gs : List Frame) (j : IterAt) (vs : Trees) (ks : TreeLists) (hs : List Frame)
      → FrameGoes prims rest p i us ls gs j vs ks hs → FrameGoes prims (clause mode hop t rest) p i ts (and_list us ls) gs j ts (and_list vs ks) hs
  later-goes mode hop t rest p ts _ _ _ _ _ _ _ _ (still i us ls gs) = still i ts (and_list us ls) gs
  later-goes mode hop t rest p ts _ _ _ _ _ _ _ _ (goes_then i j l us vs ws ls ks ms gs hs es d step more) =
      goes_then i j l ts ts ts (and_list us ls) (and_list vs ks) (and_list ws ms) gs hs es d (λ whole. later_moves mode hop t rest (framed p i whole) ts us vs ls ks gs d j hs (step whole))
      (later-goes mode hop t rest p ts j vs ks hs l ws ms es more)

  -- the frames below it
  below-goes : (mode : Mode) (hop : Hop) (t : Template) (rest : Clauses) (p : ℕ) (i : IterAt) (ts : Trees) (gs hs : List Frame)
      → StackGoes prims t gs hs → FrameGoes prims (clause mode hop t rest) p i ts no_lists gs i ts no_lists hs
  below-goes mode hop t rest p i ts _ _ (stack_still gs) = still i ts no_lists gs
  below-goes mode hop t rest p i ts _ _ (stack_then gs hs es d step more) =
      goes_then i i i ts ts ts no_lists no_lists no_lists gs hs es (if is_given mode t then 0 else d) (λ whole. below_moves mode hop t rest (framed p i whole) ts gs d hs step) (below-goes mode hop t rest p i ts hs es more)

  -- as the first of frames
  stack-goes : (cs : List Constraint) (asked : Clauses) (p : ℕ) (i : IterAt) (us : Trees) (ls : TreeLists) (gs : List Frame) (j : IterAt) (vs : Trees) (ks : TreeLists) (hs : List Frame)
      → FrameGoes prims asked p i us ls gs j vs ks hs → StackGoes prims (template cs asked) (framed p i (and_list us ls) ∷ gs) (framed p j (and_list vs ks) ∷ hs)
  stack-goes cs asked p _ _ _ _ _ _ _ _ (still i us ls gs) = stack_still (framed p i (and_list us ls) ∷ gs)
  stack-goes cs asked p _ _ _ _ _ _ _ _ (goes_then i j l us vs ws ls ks ms gs hs es d step more) =
      stack_then (framed p i (and_list us ls) ∷ gs) (framed p j (and_list vs ks) ∷ hs) (framed p l (and_list ws ms) ∷ es) d
      (frame_moves cs asked (framed p i (and_list us ls)) gs d j (and_list vs ks) hs (step (and_list us ls))) (stack-goes cs asked p j vs ks hs l ws ms es more)

  -- ---- to the end

  -- a frame of a template at its end
  abbrev pub AtEnd : Template → Frame → Option TreeLists → Type 0
  AtEnd (template cs asked) g o = Ends prims asked g g.lists o

  -- a place that begins to be tried comes to its end
  abbrev pub ComesToEnd : Template → ℕ → IterAt → Type 0
  ComesToEnd t x j = (g : Frame) × (o : Option TreeLists) × StackGoes prims t (fresh x j ∷ []) (g ∷ []) × AtEnd t g o

  -- a clause comes to its last place
  abbrev AllPlaces : Mode → Hop → Template → Clauses → ℕ → IterAt → Trees → Type 0
  AllPlaces mode hop t rest p i ts = (j : IterAt) × (vs : Trees) × FrameGoes prims (clause mode hop t rest) p i ts no_lists [] j vs no_lists [] × (passing_from prims hop t p j.place ≡ [])

  -- clauses come to an end
  abbrev AllClauses : Clauses → ℕ → IterAt → Trees → Type 0
  AllClauses asked p i ts = (j : IterAt) × (vs : Trees) × (ks : TreeLists) × (o : Option TreeLists) × FrameGoes prims asked p i ts no_lists [] j vs ks [] × ((whole : TreeLists) → Ends prims asked (framed p j whole) (and_list vs ks) o)

  places-go : (mode : Mode) (hop : Hop) (t : Template) (rest : Clauses) (p : ℕ) → ((x : ℕ) → ComesToEnd t x (iter_at 0)) → (xs : List ℕ) (i : IterAt) (ts : Trees) → passing_from prims hop t p i.place ≡ xs → AllPlaces mode hop t rest p i ts
  places-go mode hop t rest p inner [] i ts is = (i, ts, still i ts no_lists [], is)
  places-go mode hop (template cs asked) rest p inner (x ∷ xs) i ts is = by (is_given mode (template cs asked)) refl
      (λ us. places-go mode hop (template cs asked) rest p inner xs (iter_at (x + 1)) us left)
    where
      left : passing_from prims hop (template cs asked) p (x + 1) ≡ xs
      left = next_left (λ y. y) (passes_template prims (template cs asked)) i.place x xs (led_to prims hop p) (led-rise prims hop p) is

      first : passing_from prims hop (template cs asked) p i.place ≡ x ∷ passing_from prims hop (template cs asked) p (x + 1)
      first = is ∙ ap (λ l. x ∷ l) (sym left)

      by : (b : Bool) → is_given mode (template cs asked) ≡ b → ((us : Trees) → AllPlaces mode hop (template cs asked) rest p (iter_at (x + 1)) us) → AllPlaces mode hop (template cs asked) rest p i ts
      by true given more =
          let us = append ts (and_tree (tree_of prims (template cs asked) x) no_trees) in
          let to = more us in
          (to.0, to.1, goes_then i (iter_at (x + 1)) to.0 ts us to.1 no_lists no_lists no_lists [] [] [] (one_for_links hop) (λ whole. takes mode hop (template cs asked) rest (framed p i whole) ts x (iter_at (x + 1)) given first) to.2, to.3)
      by false given more =
          let run = inner x in
          let us = appended ts (option_map (tree run.0.place) run.1) in
          let to = more us in (
            to.0,
            to.1,
            goes_then i (iter_at (x + 1)) to.0 ts ts to.1 no_lists no_lists no_lists [] (fresh x (iter_at 0) ∷ []) [] (one_for_links hop) (λ whole. descends mode hop (template cs asked) rest (framed p i whole) ts x (iter_at (x + 1)) (iter_at 0) first)
                (goes-on (clause mode hop (template cs asked) rest) p (iter_at (x + 1)) ts no_lists (fresh x (iter_at 0) ∷ []) (iter_at (x + 1)) ts no_lists (run.0 ∷ []) to.0 to.1 no_lists []
                (below-goes mode hop (template cs asked) rest p (iter_at (x + 1)) ts (fresh x (iter_at 0) ∷ []) (run.0 ∷ []) run.2)
                (goes_then (iter_at (x + 1)) (iter_at (x + 1)) to.0 ts us to.1 no_lists no_lists no_lists (run.0 ∷ []) [] [] 0 (λ whole. below_ends mode hop cs asked rest (framed p (iter_at (x + 1)) whole) run.0 ts run.1 run.3) to.2)),
            to.3,
          )

  -- clauses come to an end, if there are any
  abbrev AnyClauses : Clauses → ℕ → Trees → Type 0
  AnyClauses no_clauses p ts = Unit {0}
  AnyClauses (clause mode hop t rest) p ts = AllClauses (clause mode hop t rest) p (iter_at 0) ts

  -- behind the last place of a clause the next one begins, or the frame ends
  goes-behind : (mode : Mode) (hop : Hop) (t : Template) (rest : Clauses) (p : ℕ) (i : IterAt) (ts : Trees) → AllPlaces mode hop t rest p i ts → AnyClauses rest p no_trees → AllClauses (clause mode hop t rest) p i ts
  goes-behind mode hop t no_clauses p i ts all next =
      (all.0, all.1, no_lists, with_list mode all.1 (Some no_lists), all.2, λ whole. last_ends mode hop t (framed p all.0 whole) all.1 all.3)
  goes-behind mode hop t (clause m h u rest) p i ts all next = by (stops mode all.1) refl
    where
      by : (b : Bool) → stops mode all.1 ≡ b → AllClauses (clause mode hop t (clause m h u rest)) p i ts
      by true is = (all.0, all.1, no_lists, None, all.2, λ whole. required_unmet mode hop t (clause m h u rest) (framed p all.0 whole) all.1 all.3 is)
      by false is = (
        next.0,
        all.1,
        and_list next.1 next.2,
        with_list mode all.1 next.3,
        goes-on (clause mode hop t (clause m h u rest)) p i ts no_lists [] all.0 all.1 no_lists [] next.0 all.1 (and_list next.1 next.2) [] all.2
            (goes_then all.0 (iter_at 0) next.0 all.1 all.1 all.1 no_lists (and_list no_trees no_lists) (and_list next.1 next.2) [] [] [] 0
            (λ whole. next_begins mode hop t m h u rest (framed p all.0 whole) all.1 (iter_at 0) all.3 is refl)
            (later-goes mode hop t (clause m h u rest) p all.1 (iter_at 0) no_trees no_lists [] next.0 next.1 next.2 [] next.4)),
        λ whole. later_ends mode hop t (clause m h u rest) (framed p next.0 whole) all.1 next.1 next.2 next.3 (next.5 whole),
      )

  begins-there : (cs : List Constraint) (asked : Clauses) (x : ℕ) → AnyClauses asked x no_trees → ComesToEnd (template cs asked) x (iter_at 0)
  begins-there cs no_clauses x none = (fresh x (iter_at 0), Some no_lists, stack_still (fresh x (iter_at 0) ∷ []), nothing_asked (fresh x (iter_at 0)))
  begins-there cs (clause mode hop t rest) x to = (
    framed x to.0 (and_list to.1 to.2),
    to.3,
    stack_then (fresh x (iter_at 0) ∷ []) (framed x (iter_at 0) (and_list no_trees no_lists) ∷ []) (framed x to.0 (and_list to.1 to.2) ∷ []) 0
        (frame_moves cs (clause mode hop t rest) (fresh x (iter_at 0)) [] 0 (iter_at 0) (and_list no_trees no_lists) [] (begins mode hop t rest (fresh x (iter_at 0)) (iter_at 0) refl))
        (stack-goes cs (clause mode hop t rest) x (iter_at 0) no_trees no_lists [] to.0 to.1 to.2 [] to.4),
    to.5 (and_list to.1 to.2),
  )

  mutual
    -- LAW: a place that begins to be tried comes by moves to its end
    pub comes-to-end : (t : Template) (x : ℕ) → ComesToEnd t x (iter_at 0)
    comes-to-end (template cs asked) x = begins-there cs asked x (clauses-go asked x no_trees)

    clauses-go : (asked : Clauses) (p : ℕ) (ts : Trees) → AnyClauses asked p ts
    clauses-go no_clauses p ts = tt
    clauses-go (clause mode hop t rest) p ts =
        goes-behind mode hop t rest p (iter_at 0) ts (places-go mode hop t rest p (λ x. comes-to-end t x) (passing_from prims hop t p 0) (iter_at 0) ts refl) (clauses-go rest p no_trees)

  -- ---- from a position that fits

  -- clauses come to an end from lists and frames below
  abbrev FromLists : Clauses → ℕ → IterAt → Trees → TreeLists → List Frame → Type 0
  FromLists asked p i us ls gs = (j : IterAt) × (vs : Trees) × (ks : TreeLists) × (o : Option TreeLists) × FrameGoes prims asked p i us ls gs j vs ks [] × ((whole : TreeLists) → Ends prims asked (framed p j whole) (and_list vs ks) o)

  abbrev FromHere : Clauses → Frame → TreeLists → List Frame → Type 0
  FromHere asked f no_lists gs = Unit {0}
  FromHere asked f (and_list us ls) gs = FromLists asked f.place f.iter us ls gs

  -- frames come to the end of the first one
  abbrev pub FromFrames : Template → Frame → List Frame → Type 0
  FromFrames t f gs = (g : Frame) × (o : Option TreeLists) × StackGoes prims t (f ∷ gs) (g ∷ []) × AtEnd t g o

  -- a frame that ends is taken up by the one above it
  taken-up : (mode : Mode) (hop : Hop) (t : Template) (rest : Clauses) (f : Frame) (ts : Trees) (g : Frame) (gs : List Frame) → FromFrames t g gs → ((us : Trees) → AllClauses (clause mode hop t rest) f.place f.iter us)
      → FromLists (clause mode hop t rest) f.place f.iter ts no_lists (g ∷ gs)
  taken-up mode hop (template cs inner) rest f ts g gs below more =
      let us = appended ts (option_map (tree below.0.place) below.1) in
      let to = more us in (
        to.0,
        to.1,
        to.2,
        to.3,
        goes-on (clause mode hop (template cs inner) rest) f.place f.iter ts no_lists (g ∷ gs) f.iter ts no_lists (below.0 ∷ []) to.0 to.1 to.2 []
            (below-goes mode hop (template cs inner) rest f.place f.iter ts (g ∷ gs) (below.0 ∷ []) below.2)
            (goes_then f.iter f.iter to.0 ts us to.1 no_lists no_lists to.2 (below.0 ∷ []) [] [] 0 (λ whole. below_ends mode hop cs inner rest (framed f.place f.iter whole) below.0 ts below.1 below.3) to.4),
        to.5,
      )

  as-frames : (cs : List Constraint) (asked : Clauses) (f : Frame) (gs : List Frame) (ls : TreeLists) → f.lists ≡ ls → has_list ls ≡ true → FromHere asked f ls gs → FromFrames (template cs asked) f gs
  as-frames cs asked f gs no_lists is has from = absurd (false≢true has)
  as-frames cs asked f gs (and_list us ls) is has from = (
    framed f.place from.0 (and_list from.1 from.2),
    from.3,
    subst (λ l. StackGoes prims (template cs asked) (framed f.place f.iter l ∷ gs) (framed f.place from.0 (and_list from.1 from.2) ∷ [])) (sym is) (stack-goes cs asked f.place f.iter us ls gs from.0 from.1 from.2 [] from.4),
    from.5 (and_list from.1 from.2),
  )

  -- what fits has a list
  lists-there : (members : MembersOf) (end : ℕ) (asked : Clauses) (f : Frame) (ls : TreeLists) (gs : List Frame) → frame_lists_fit prims members end asked f ls gs ≡ true → has_list ls ≡ true
  lists-there members end no_clauses f ls gs fits = absurd (false≢true fits)
  lists-there members end (clause mode hop t rest) f no_lists gs fits = absurd (false≢true fits)
  lists-there members end (clause mode hop t rest) f (and_list us ls) gs fits = refl

  mutual
    -- LAW: frames that fit come by moves to the end of the first one
    pub frames-come : (members : MembersOf) (end : ℕ) (t : Template) (f : Frame) (gs : List Frame) → frames_fit prims members end t f gs ≡ true → FromFrames t f gs
    frames-come members end (template cs asked) f gs fits =
        let both = and_parts (meets_constraints prims cs f.place) (frame_lists_fit prims members end asked f f.lists gs) fits in
        as-frames cs asked f gs f.lists refl (lists-there members end asked f f.lists gs both.1) (lists-come members end asked f f.lists gs both.1)

    lists-come : (members : MembersOf) (end : ℕ) (asked : Clauses) (f : Frame) (ls : TreeLists) (gs : List Frame) → frame_lists_fit prims members end asked f ls gs ≡ true → FromHere asked f ls gs
    lists-come members end no_clauses f ls gs fits = absurd (false≢true fits)
    lists-come members end (clause mode hop t rest) f no_lists gs fits = tt
    lists-come members end (clause mode hop t rest) f (and_list ts no_lists) [] fits =
        goes-behind mode hop t rest f.place f.iter ts (places-go mode hop t rest f.place (λ x. comes-to-end t x) (passing_from prims hop t f.place f.iter.place) f.iter ts refl) (clauses-go rest f.place no_trees)
    lists-come members end (clause mode hop t rest) f (and_list ts no_lists) (g ∷ gs) fits =
        let first = and_parts _ (frames_fit prims members end t g gs) fits in
        taken-up mode hop t rest f ts g gs (frames-come members end t g gs first.1)
        (λ us. goes-behind mode hop t rest f.place f.iter us (places-go mode hop t rest f.place (λ x. comes-to-end t x) (passing_from prims hop t f.place f.iter.place) f.iter us refl) (clauses-go rest f.place no_trees))
    lists-come members end (clause mode hop t rest) f (and_list ts (and_list us ls)) gs fits =
        let both = and_parts _ (frame_lists_fit prims members end rest f (and_list us ls) gs) fits in
        let to = lists-come members end rest f (and_list us ls) gs both.1 in (
          to.0,
          ts,
          and_list to.1 to.2,
          with_list mode ts to.3,
          later-goes mode hop t rest f.place ts f.iter us ls gs to.0 to.1 to.2 [] to.4,
          λ whole. later_ends mode hop t rest (framed f.place to.0 whole) ts to.1 to.2 to.3 (to.5 whole),
        )

  -- ---- scans

  -- a scan comes to its end
  abbrev ScanEnds : ScanOrder → Template → Scan → Type 0
  ScanEnds order t s = (cs : List Candidate) × (e : Scan) × Runs prims order t s cs e × (e.frames ≡ []) × (order_from prims t order e.iter.place ≡ [])

  ends-after : (order : ScanOrder) (t : Template) (i : IterAt) (n : ℕ) (gs hs : List Frame) → StackGoes prims t gs hs → ((m : ℕ) → ScanEnds order t (record { iter = i; weight = m; frames = hs })) → ScanEnds order t (record { iter = i; weight = n; frames = gs })
  ends-after order t i n _ _ (stack_still gs) more = more n
  ends-after order t i n _ _ (stack_then gs hs es d step rest) more =
      let to = ends-after order t i (n + d) hs es rest more in
      (to.0, to.1, moves (record { iter = i; weight = n; frames = gs }) (record { iter = i; weight = n + d; frames = hs }) to.1 [] to.0 (frames_move t (record { iter = i; weight = n; frames = gs }) d hs step) to.2, to.3, to.4)

  scan-ends : (order : ScanOrder) (t : Template) → Rising nat_cmp (map (λ c. c.0) order) → (cs : ScanOrder) (i : IterAt) (n : ℕ) → order_from prims t order i.place ≡ cs → ScanEnds order t (record { iter = i; weight = n; frames = [] })
  scan-ends order t rises [] i n is = ([], record { iter = i; weight = n; frames = [] }, stays (record { iter = i; weight = n; frames = [] }), refl, is)
  scan-ends order (template ks asked) rises (c ∷ cs) i n is =
      let left : order_from prims (template ks asked) order (c.0 + 1) ≡ cs = next_left (λ d. d.0) (λ d. passes_template prims (template ks asked) d.1) i.place c cs order (Rising-mapped order rises) is in
      let run = comes-to-end (template ks asked) c.1 in
      let rest = scan-ends order (template ks asked) rises cs (iter_at (c.0 + 1)) 0 left in
      let to = ends-after order (template ks asked) (iter_at (c.0 + 1)) 0 (fresh c.1 (iter_at 0) ∷ []) (run.0 ∷ []) run.2
      (λ m. (
        record { weight = m; answer = option_map (tree run.0.place) run.1 } ∷ rest.0,
        rest.1,
        moves (record { iter = iter_at (c.0 + 1); weight = m; frames = run.0 ∷ [] }) (record { iter = iter_at (c.0 + 1); weight = 0; frames = [] }) rest.1 (record { weight = m; answer = option_map (tree run.0.place) run.1 } ∷ []) rest.0
            (gives ks asked (record { iter = iter_at (c.0 + 1); weight = m; frames = run.0 ∷ [] }) run.0 0 run.1 refl run.3) rest.2,
        rest.3,
        rest.4,
      )) in (
        to.0,
        to.1,
        moves (record { iter = i; weight = n; frames = [] }) (record { iter = iter_at (c.0 + 1); weight = 0; frames = fresh c.1 (iter_at 0) ∷ [] }) to.1 [] to.0
            (picks (template ks asked) (record { iter = i; weight = n; frames = [] }) c (iter_at (c.0 + 1)) (iter_at 0) refl (is ∙ ap (λ l. c ∷ l) (sym left))) to.2,
        to.3,
        to.4,
      )

  -- LAW: a scan that fits comes by moves to its end, and gives exactly what it owes, if its order rises
  pub fitting-to-end : (members : MembersOf) (order : ScanOrder) (t : Template) → Rising nat_cmp (map (λ c. c.0) order) → (s : Scan) → scan_fits prims members t s ≡ true
      → (e : Scan) × Runs prims order t s (owed_by prims t order s) e × (e.frames ≡ []) × (order_from prims t order e.iter.place ≡ [])
  fitting-to-end members order t rises s fits = owes-all (by s.frames refl (and_parts (iter_fits (length prims) (members prims None t) s.iter) (stack_fits prims members t s.frames) fits).1)
    where
      owes-all : ScanEnds order t s → (e : Scan) × Runs prims order t s (owed_by prims t order s) e × (e.frames ≡ []) × (order_from prims t order e.iter.place ≡ [])
      owes-all to =
          let owed : owed_by prims t order s ≡ to.0 =
          run-keeps prims order t s to.0 to.1 to.2
          ∙ ap (λ fs. to.0 ++ (tried prims t to.1.weight fs ++ candidates_from prims t order to.1.iter.place)) to.3
          ∙ ap (λ l. to.0 ++ map (λ c. candidate prims t c.1) l) to.4
          ∙ append-nil to.0 in
          (to.1, subst (λ cs. Runs prims order t s cs to.1) (sym owed) to.2, to.3, to.4)

      with-first : (t : Template) (f : Frame) (gs : List Frame) → FromFrames t f gs → ScanEnds order t (record { iter = s.iter; weight = 0; frames = [] }) → ScanEnds order t (record { iter = s.iter; weight = s.weight; frames = f ∷ gs })
      with-first (template ks asked) f gs run rest = ends-after order (template ks asked) s.iter s.weight (f ∷ gs) (run.0 ∷ []) run.2
          (λ m. (
            record { weight = m; answer = option_map (tree run.0.place) run.1 } ∷ rest.0,
            rest.1,
            moves (record { iter = s.iter; weight = m; frames = run.0 ∷ [] }) (record { iter = s.iter; weight = 0; frames = [] }) rest.1 (record { weight = m; answer = option_map (tree run.0.place) run.1 } ∷ []) rest.0
                (gives ks asked (record { iter = s.iter; weight = m; frames = run.0 ∷ [] }) run.0 0 run.1 refl run.3) rest.2,
            rest.3,
            rest.4,
          ))

      by : (fs : List Frame) → s.frames ≡ fs → stack_fits prims members t s.frames ≡ true → ScanEnds order t s
      by [] is fit = subst (λ fs. ScanEnds order t (record { iter = s.iter; weight = s.weight; frames = fs })) (sym is) (scan-ends order t rises (order_from prims t order s.iter.place) s.iter s.weight refl)
      by (f ∷ gs) is fit = subst (λ fs. ScanEnds order t (record { iter = s.iter; weight = s.weight; frames = fs })) (sym is)
          (with-first t f gs (frames-come members (length prims) t f gs (ap (stack_fits prims members t) (sym is) ∙ fit)) (scan-ends order t rises (order_from prims t order s.iter.place) s.iter 0 refl))

  -- LAW: a scan at its start comes by moves to its end, and gives exactly the candidates of its order, if that rises
  pub start-to-end : (order : ScanOrder) (t : Template) → Rising nat_cmp (map (λ c. c.0) order) → (i : IterAt) (n : ℕ) → i.place ≡ 0
      → (e : Scan) × Runs prims order t (record { iter = i; weight = n; frames = [] }) (candidates_from prims t order 0) e × (e.frames ≡ []) × (order_from prims t order e.iter.place ≡ [])
  start-to-end order t rises i n start =
      let to = scan-ends order t rises (order_from prims t order i.place) i n refl in
      let given = whole-run prims order t (record { iter = i; weight = n; frames = [] }) to.1 to.0 refl start to.3 to.4 to.2 in
      (to.1, subst (λ cs. Runs prims order t (record { iter = i; weight = n; frames = [] }) cs to.1) given to.2, to.3, to.4)

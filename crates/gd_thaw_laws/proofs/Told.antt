-- How a scan is told: what it owes stays, and it fits.
use Rattle.std.proofs.Common.{◌≡◌, ◌∙◌, ◌⊎◌, inl, inr, ⊎_elim, refl, sym, ap, subst, arith, ℕ, ◌+◌, ◌-◌, ◌≤◌, List, [], ◌∷◌, ◌++◌, Bool, true, false, cond, ◌&&◌, Option, Some, None, length, map, filter}
use Rattle.std.specs.Prelude.{nat_le, nat_lt, option_and_then, if◌then◌else◌}
use Rattle.std.specs.Option.{option_map_or}
use Rattle.std.proofs.lemmas.Bool.{and_parts, and_from, le-leb}
use Rattle.std.proofs.lemmas.Bool.Decides.{nat_tests}
use Rattle.gd_prim.specs.declared.Primitive.{Primitive}
use Rattle.gd_tree.specs.Trees.{tree, Trees, no_trees, and_tree, TreeLists, no_lists, and_list, append}
use Rattle.gd_defs.specs.Query.{Mode}
use Rattle.gd_defs.specs.Template.{Constraint, Template, template, Clauses, no_clauses, clause, Hop, passes_template}
use Rattle.gd_bytes.specs.Frozen.{IterAt, Frame, Scan}
use Rattle.gd_runs.specs.Owed.{ScanOrder, Candidate, candidate, candidates_from, tried, owed_by, iter_fits}
use Rattle.gd_order_laws.specs.Window.{In}
use Rattle.gd_order_laws.proofs.Sorted.{In-filter}
use Rattle.gd_match_laws.specs.PassedOn.{start}
use Rattle.gd_match_laws.specs.Moves.{order_from, is_given, Ends, nothing_asked, FrameMoves, begins, passes_over, descends, takes, below_moves, below_ends, next_begins, later_moves, StackMoves, frame_moves, ScanMoves, scan_passes_over, picks, frames_move, gives, Runs, stays, moves}
use Rattle.gd_match_laws.specs.Under.{current, current_on, last_list, with_last, under, counted}
use Rattle.gd_match_laws.proofs.Under.{last_moves, current_moves}
use Rattle.gd_match_laws.proofs.Scans.{run-keeps}
use Rattle.gd_thaw_laws.specs.Alone.{standing_at}
use Rattle.gd_thaw_laws.specs.Grown.{Grows, ListsGrow, StackGrows, IsPlaced, ListsPlaced, StackPlaced}
use Rattle.gd_thaw_laws.specs.Spelled.{one_member}
use Rattle.gd_thaw_laws.specs.Told.{begun, with_tree, last_told, above_told, led, frames_told, scan_told, told, StandWithin, IsPicked, Picked, ScansToTold, ToldOwes, FramesToldAlone, ToldOwesAlone, ToldPlaced, ToldFits}
use Rattle.gd_thaw_laws.proofs.Alone.{candidates_go_alone}
use Rattle.gd_thaw_laws.proofs.Grown.{runs_grow, grown_fit}
use Rattle.gd_thaw_laws.proofs.Reach.{later_left, all_left}

-- ---- the current clause

abbrev Parts : Type 0
Parts = Mode × Hop × Template

-- a frame has a current clause, below which its frames grow, or it has no list and no frame below it
abbrev Current : List Primitive → Clauses → TreeLists → List Frame → Type 0
Current prims clauses ls deeper = (q : Parts) × ((current clauses ls ≡ Some q) × StackGrows prims q.2 deeper)

there : (prims : List Primitive) (clauses : Clauses) (place : ℕ) (ls : TreeLists) (deeper : List Frame) → ListsGrow prims clauses place ls deeper → ((ls ≡ no_lists) × (deeper ≡ [])) ⊎ Current prims clauses ls deeper
there prims no_clauses place no_lists [] grows = inl (refl, refl)
there prims no_clauses place no_lists (g ∷ gs) grows = absurd grows
there prims no_clauses place (and_list ts ls) [] grows = absurd grows
there prims no_clauses place (and_list ts ls) (g ∷ gs) grows = absurd grows
there prims (clause mode hop t rest) place no_lists [] grows = inl (refl, refl)
there prims (clause mode hop t rest) place no_lists (g ∷ gs) grows = absurd grows
there prims (clause mode hop t rest) place (and_list ts no_lists) [] grows = inr ((mode, hop, t), (refl, tt))
there prims (clause mode hop t rest) place (and_list ts no_lists) (g ∷ gs) grows = inr ((mode, hop, t), (refl, grows.1.1))
there prims (clause mode hop t rest) place (and_list ts (and_list us ls)) deeper grows =
    ⊎_elim (λ none. let never : and_list us ls ≡ no_lists = none.0 in absurd (cc never)) (λ some. inr some) (there prims rest place (and_list us ls) deeper grows.1)

-- where there are frames below it, or a list, there is one
below_it : (prims : List Primitive) (clauses : Clauses) (place : ℕ) (ls : TreeLists) (g : Frame) (gs : List Frame) → ListsGrow prims clauses place ls (g ∷ gs) → Current prims clauses ls (g ∷ gs)
below_it prims clauses place ls g gs grows =
    ⊎_elim (λ none. let never : (g ∷ gs) ≡ [] = none.1 in absurd (cc never)) (λ some. some) (there prims clauses place ls (g ∷ gs) grows)

listed : (prims : List Primitive) (clauses : Clauses) (place : ℕ) (ts : Trees) (ls : TreeLists) (deeper : List Frame) → ListsGrow prims clauses place (and_list ts ls) deeper → Current prims clauses (and_list ts ls) deeper
listed prims clauses place ts ls deeper grows =
    ⊎_elim (λ none. let never : and_list ts ls ≡ no_lists = none.0 in absurd (cc never)) (λ some. some) (there prims clauses place (and_list ts ls) deeper grows)

-- it leads there
led_is : (cs : List Constraint) (clauses : Clauses) (ls : TreeLists) (q : Parts) → current clauses ls ≡ Some q → led (template cs clauses) ls ≡ q.2
led_is cs clauses ls q at = ap (λ (o : Option Parts). option_map_or (λ p. p.2) o (template cs clauses)) at

-- it and those behind it
on : (clauses : Clauses) (ls : TreeLists) (q : Parts) → current clauses ls ≡ Some q → (rest : Clauses) × (current_on clauses ls ≡ clause q.0 q.1 q.2 rest)
on no_clauses ls q at = absurd (cc at)
on (clause mode hop t rest) no_lists q at = absurd (cc at)
on (clause mode hop t rest) (and_list ts no_lists) q at = let same : (mode, hop, t) ≡ q = cc at in (rest, ap (λ (p : Parts). clause p.0 p.1 p.2 rest) same)
on (clause mode hop t rest) (and_list ts (and_list us ls)) q at = on rest (and_list us ls) q at

-- with another last list it is the same
still : (clauses : Clauses) (ls : TreeLists) (q : Parts) (ts : Trees) → current clauses ls ≡ Some q → current clauses (with_last ls (and_list ts no_lists)) ≡ Some q
still no_clauses ls q us at = absurd (cc at)
still (clause mode hop t rest) no_lists q us at = absurd (cc at)
still (clause mode hop t rest) (and_list ts no_lists) q us at = at
still (clause mode hop t rest) (and_list ts (and_list vs no_lists)) q us at = still rest (and_list vs no_lists) q us at
still (clause mode hop t rest) (and_list ts (and_list vs (and_list xs ls))) q us at = still rest (and_list vs (and_list xs ls)) q us at

-- ---- how frames are told

-- they are told as they stand, or as they are behind a move that adds nothing to the weight; or the only one of them is at its end and has no list
data Way (prims : List Primitive) : Template → Frame → List Frame → List Frame → Type 0 where
  as_it_is : (t : Template) (f : Frame) (fs : List Frame) → Way prims t f fs (f ∷ fs)
  goes : (t : Template) (f : Frame) (fs : List Frame) (h : Frame) (hs : List Frame) → StackMoves prims t (f ∷ fs) 0 (h ∷ hs) → Way prims t f fs (h ∷ hs)
  is_ended : (cs : List Constraint) (f : Frame) → f.lists ≡ no_lists → Way prims (template cs no_clauses) f [] []

module _ (prims : List Primitive) where
  last_way : (cs : List Constraint) (clauses : Clauses) (f : Frame) (ls : TreeLists) → f.lists ≡ ls → Way prims (template cs clauses) f [] (last_told clauses f ls)
  last_way cs no_clauses f no_lists is = is_ended cs f is
  last_way cs no_clauses f (and_list ts ls) is = as_it_is (template cs no_clauses) f []
  last_way cs (clause mode hop t rest) f no_lists is =
      goes (template cs (clause mode hop t rest)) f [] (begun f) [] (frame_moves cs (clause mode hop t rest) f [] 0 (begun f).iter (and_list no_trees no_lists) []
      (subst (λ (ls : TreeLists). FrameMoves prims (clause mode hop t rest) f ls [] 0 (begun f).iter (and_list no_trees no_lists) []) (sym is) (begins mode hop t rest f (begun f).iter refl)))
  last_way cs (clause mode hop t rest) f (and_list ts ls) is = as_it_is (template cs (clause mode hop t rest)) f []

  -- nothing is counted below one frame
  nothing : (cs : List Constraint) (clauses : Clauses) (f : Frame) → counted (template cs clauses) (f ∷ []) 0 ≡ 0
  nothing cs clauses f = by (current clauses f.lists)
    where
      either : (b : Bool) (n : ℕ) → n ≡ 0 → (if b then 0 else n) ≡ 0
      either true n is = refl
      either false n is = is

      by : (o : Option Parts) → option_map_or (λ p. if is_given p.0 p.2 then 0 else counted p.2 [] 0) o 0 ≡ 0
      by None = refl
      by (Some p) = either (is_given p.0 p.2) 0 refl

  -- the frame below ends, and has nothing but its place
  gains : (cs : List Constraint) (clauses : Clauses) (f g : Frame) (q : Parts) (ds : List Constraint) → current clauses f.lists ≡ Some q → q.2 ≡ template ds no_clauses → g.lists ≡ no_lists
      → StackMoves prims (template cs clauses) (f ∷ g ∷ []) 0 (with_tree f (tree g.place no_lists) ∷ [])
  gains cs clauses f g q ds at asks empty =
      let rest = on clauses f.lists q at in
      let whole : current_on clauses f.lists ≡ clause q.0 q.1 (template ds no_clauses) rest.0 = rest.1 ∙ ap (λ (u : Template). clause q.0 q.1 u rest.0) asks in
      let ends : Ends prims no_clauses g g.lists (Some no_lists) = subst (λ (ls : TreeLists). Ends prims no_clauses g ls (Some no_lists)) (sym empty) (nothing_asked g) in
      let vs : Trees = append (last_list f.lists) (and_tree (tree g.place no_lists) no_trees) in
      frame_moves cs clauses f (g ∷ []) 0 f.iter (with_last f.lists (and_list vs no_lists)) []
      (current_moves prims clauses f q f.lists (g ∷ []) 0 f.iter vs no_lists [] at
      (subst (λ (c : Clauses). FrameMoves prims c f (and_list (last_list f.lists) no_lists) (g ∷ []) 0 f.iter (and_list vs no_lists) []) (sym whole)
      (below_ends q.0 q.1 ds no_clauses rest.0 f g (last_list f.lists) (Some no_lists) ends)))

  above_way : (cs : List Constraint) (clauses : Clauses) (f g : Frame) (gs hs : List Frame) (q : Parts) (u : Template) → current clauses f.lists ≡ Some q → q.2 ≡ u → Way prims u g gs hs
      → Way prims (template cs clauses) f (g ∷ gs) (above_told f g.place hs)
  above_way cs clauses f _ _ _ q _ at asks (as_it_is u g gs) = as_it_is (template cs clauses) f (g ∷ gs)
  above_way cs clauses f _ _ _ q _ at asks (goes u g gs h hs step) =
      goes (template cs clauses) f (g ∷ gs) f (h ∷ hs)
      (subst (λ (n : ℕ). StackMoves prims (template cs clauses) (f ∷ g ∷ gs) n (f ∷ h ∷ hs)) (nothing cs clauses f)
      (last_moves prims (template cs clauses) u (f ∷ []) (g ∷ gs) (h ∷ hs) 0 (ap (option_and_then (λ (p : Parts). under p.2 [])) at ∙ ap Some asks) step))
  above_way cs clauses f _ _ _ q _ at asks (is_ended ds g empty) =
      goes (template cs clauses) f (g ∷ []) (with_tree f (tree g.place no_lists)) [] (gains cs clauses f g q ds at asks empty)

  way : (t : Template) (f : Frame) (fs : List Frame) → Grows prims t f fs → Way prims t f fs (frames_told t (f ∷ fs))
  way (template cs clauses) f [] grows = last_way cs clauses f f.lists refl
  way (template cs clauses) f (g ∷ gs) grows =
      let q = below_it prims clauses f.place f.lists g gs grows.1 in
      let lower : led (template cs clauses) f.lists ≡ q.0.2 = led_is cs clauses f.lists q.0 q.1.0 in
      subst (λ (u : Template). Way prims (template cs clauses) f (g ∷ gs) (above_told f g.place (frames_told u (g ∷ gs)))) (sym lower)
      (above_way cs clauses f g gs (frames_told q.0.2 (g ∷ gs)) q.0 q.0.2 q.1.0 refl (way q.0.2 g gs q.1.1))

  -- ---- runs

  way_runs : (order : ScanOrder) (t : Template) (s : Scan) (f : Frame) (fs : List Frame) (h : Frame) (hs ks : List Frame) → s.frames ≡ f ∷ fs → ks ≡ h ∷ hs → Way prims t f fs ks
      → Runs prims order t s [] (record { iter = s.iter; weight = s.weight; frames = h ∷ hs })
  way_runs order _ s _ _ h hs _ is told_so (as_it_is t f fs) =
      subst (λ (l : List Frame). Runs prims order t s [] (record { iter = s.iter; weight = s.weight; frames = l })) (is ∙ told_so) (stays s)
  way_runs order _ s _ _ h hs _ is told_so (goes t f fs k ks step) =
      let step_here : StackMoves prims t s.frames 0 (h ∷ hs) = subst (λ (l : List Frame). StackMoves prims t l 0 (h ∷ hs)) (sym is) (subst (λ (l : List Frame). StackMoves prims t (f ∷ fs) 0 l) told_so step) in
      let same : s.weight + 0 ≡ s.weight = omega arith in
      subst (λ (n : ℕ). Runs prims order t s [] (record { iter = s.iter; weight = n; frames = h ∷ hs })) same
      (moves s (record { iter = s.iter; weight = s.weight + 0; frames = h ∷ hs }) (record { iter = s.iter; weight = s.weight + 0; frames = h ∷ hs }) [] [] (frames_move t s 0 (h ∷ hs) step_here)
      (stays (record { iter = s.iter; weight = s.weight + 0; frames = h ∷ hs })))
  way_runs order _ s _ _ h hs _ is told_so (is_ended cs f empty) = absurd (cc told_so)

-- the frames of a scan, and what they are told as
pub told_is : (t : Template) (s : Scan) (f : Frame) (fs : List Frame) (h : Frame) (hs : List Frame) → s.frames ≡ f ∷ fs → frames_told t s.frames ≡ h ∷ hs → told t s ≡ record { iter = s.iter; weight = s.weight; frames = h ∷ hs }
told_is t s f fs h hs is so = ap (λ (l : List Frame). scan_told s l (frames_told t s.frames)) is ∙ ap (scan_told s (f ∷ fs)) so

pub scans_to_told : ScansToTold
scans_to_told prims order t s h hs grows so = by s.frames refl grows
  where
    by : (l : List Frame) → s.frames ≡ l → StackGrows prims t l → Runs prims order t s [] (told t s)
    by [] is grown = absurd (let never : [] ≡ h ∷ hs = sym (ap (frames_told t) is) ∙ so in cc never)
    by (f ∷ fs) is grown =
        subst (Runs prims order t s []) (sym (told_is t s f fs h hs is so))
        (way_runs prims order t s f fs h hs (frames_told t (f ∷ fs)) is (sym (ap (frames_told t) is) ∙ so) (way prims t f fs grown))

-- ---- its own candidate

module _ (prims : List Primitive) where
  -- where nothing is asked, no frame moves
  never_moves : (clauses : Clauses) (f : Frame) (ls : TreeLists) (gs : List Frame) (d : ℕ) (i : IterAt) (ks : TreeLists) (hs : List Frame) → clauses ≡ no_clauses → FrameMoves prims clauses f ls gs d i ks hs → ⊥
  never_moves _ _ _ _ _ _ _ _ e (begins mode hop t rest f i first) = cc e
  never_moves _ _ _ _ _ _ _ _ e (passes_over mode hop t rest f ts gs i same) = cc e
  never_moves _ _ _ _ _ _ _ _ e (descends mode hop t rest f ts x i j is) = cc e
  never_moves _ _ _ _ _ _ _ _ e (takes mode hop t rest f ts x i given is) = cc e
  never_moves _ _ _ _ _ _ _ _ e (below_moves mode hop t rest f ts gs d hs step) = cc e
  never_moves _ _ _ _ _ _ _ _ e (below_ends mode hop cs inner rest f g ts o ends) = cc e
  never_moves _ _ _ _ _ _ _ _ e (next_begins mode hop t m h u rest f ts i none still first) = cc e
  never_moves _ _ _ _ _ _ _ _ e (later_moves mode hop t rest f ts us vs ls ks gs d i hs step) = cc e

  never_stacks : (t : Template) (cs : List Constraint) (gs : List Frame) (d : ℕ) (hs : List Frame) → t ≡ template cs no_clauses → StackMoves prims t gs d hs → ⊥
  never_stacks _ cs _ _ _ e (frame_moves ds clauses f gs d i ls hs step) = never_moves clauses f f.lists gs d i ls hs (cc e) step

  -- so a candidate weighs nothing
  abbrev IsLight : Scan → Type 0
  IsLight s = (s.frames ≡ []) ⊎ (s.weight ≡ 0)

  light_on : (order : ScanOrder) (t : Template) (cs : List Constraint) (s m : Scan) (given : List Candidate) → t ≡ template cs no_clauses → ScanMoves prims order t s given m → IsLight s → IsLight m
  light_on order _ cs _ _ _ e (scan_passes_over t s i is) light = light
  light_on order _ cs _ _ _ e (picks t s c i j none is) light = inr refl
  light_on order _ cs _ _ _ e (frames_move t s d fs step) light = absurd (never_stacks t cs s.frames d fs e step)
  light_on order _ cs _ _ _ e (gives ds clauses s f n o one ends) light = inl refl

  light : (order : ScanOrder) (t : Template) (cs : List Constraint) (s m : Scan) (given : List Candidate) → t ≡ template cs no_clauses → Runs prims order t s given m → IsLight s → IsLight m
  light order t cs _ _ _ e (stays s) l = l
  light order t cs _ _ _ e (moves s m n given later step rest) l = light order t cs m n later e rest (light_on order t cs s m given e step l)

  -- what was picked is the first that is left from its place on
  picked_there : (order : ScanOrder) (t : Template) (a n p : ℕ) → order_from prims t order a ≡ (n, p) ∷ order_from prims t order (n + 1)
      → (order_from prims t order n ≡ (n, p) ∷ order_from prims t order (n + 1)) × (passes_template prims t p ≡ true)
  picked_there order t a n p is =
      let here = In-filter (λ (c : ℕ × ℕ). nat_le a c.0 && passes_template prims t c.1) order (n, p) (subst (In (n, p)) (sym is) (inl refl)) in
      let parts = and_parts (nat_le a n) (passes_template prims t p) here.1 in
      let up : a ≤ n = grind (arith, nat_tests, parts.0) in
      let near : n ≤ n + 1 = omega arith in
      let self : nat_le n n ≡ true = le-leb n n (omega arith) in (
        sym (later_left prims t a n order up) ∙ ap (filter (λ (c : ℕ × ℕ). nat_le n c.0)) is
            ∙ ap (λ (b : Bool). cond b ((n, p) ∷ filter (λ (c : ℕ × ℕ). nat_le n c.0) (order_from prims t order (n + 1))) (filter (λ (c : ℕ × ℕ). nat_le n c.0) (order_from prims t order (n + 1)))) self
            ∙ ap (λ (l : ScanOrder). (n, p) ∷ l) (all_left prims t (n + 1) n order near),
        parts.1,
      )

  -- the candidate where nothing is asked
  candidate_is : (cs : List Constraint) (p : ℕ) → passes_template prims (template cs no_clauses) p ≡ true → candidate prims (template cs no_clauses) p ≡ record { weight = 0; answer = Some (tree p no_lists) }
  candidate_is cs p passes = ap (λ (b : Bool). record { weight = 0; answer = if b then Some (tree p no_lists) else None }) passes

  -- it comes again
  again : (order : ScanOrder) (cs : List Constraint) (s : Scan) (f : Frame) → s.weight ≡ 0 → IsPicked prims order (template cs no_clauses) s f.place
      → candidates_from prims (template cs no_clauses) order (s.iter.place - 1) ≡ tried prims (template cs no_clauses) s.weight (f ∷ []) ++ candidates_from prims (template cs no_clauses) order s.iter.place
  again order cs s f none p =
      let there = picked_there order (template cs no_clauses) p.from p.at f.place p.picked in
      let back : s.iter.place - 1 ≡ p.at = let is = p.stands in omega (arith, is) in
      ap (candidates_from prims (template cs no_clauses) order) back
      ∙ ap (map (λ (c : ℕ × ℕ). candidate prims (template cs no_clauses) c.1)) there.0
      ∙ ap (λ (c : Candidate). c ∷ candidates_from prims (template cs no_clauses) order (p.at + 1)) (candidate_is cs f.place there.1 ∙ ap (λ (n : ℕ). record { weight = n; answer = Some (tree f.place no_lists) }) weightless)
      ∙ ap (λ (n : ℕ). tried prims (template cs no_clauses) s.weight (f ∷ []) ++ candidates_from prims (template cs no_clauses) order n) (sym p.stands)
    where
      weightless : 0 ≡ s.weight + 0
      weightless = omega (arith, none)

  ended_owes : (order : ScanOrder) (t : Template) (s : Scan) (f : Frame) (fs ks : List Frame) → s.frames ≡ f ∷ fs → ks ≡ [] → Way prims t f fs ks → ((cs : List Constraint) → t ≡ template cs no_clauses → IsLight s) → IsPicked prims order t s f.place
      → candidates_from prims t order (s.iter.place - 1) ≡ tried prims t s.weight (f ∷ fs) ++ candidates_from prims t order s.iter.place
  ended_owes order _ s _ _ _ is none (as_it_is t f fs) light_there p = absurd (cc none)
  ended_owes order _ s _ _ _ is none (goes t f fs h hs step) light_there p = absurd (cc none)
  ended_owes order _ s _ _ _ is none (is_ended cs f empty) light_there p =
      again order cs s f (⊎_elim (λ (idle : s.frames ≡ []). absurd (cc (idle, is))) (λ (w : s.weight ≡ 0). w) (light_there cs refl)) p

pub told_owes : ToldOwes
told_owes prims order before t from s cs idle run picked = by s.frames refl (runs_grow prims before t from s cs run (subst (StackGrows prims t) (sym idle) tt)) picked
  where
    by : (l : List Frame) → s.frames ≡ l → StackGrows prims t l → Picked prims order t s l → owed_by prims t order (told t s) ≡ owed_by prims t order s
    by [] is grown p = ap (owed_by prims t order) (ap (λ (l : List Frame). scan_told s l (frames_told t s.frames)) is)
    by (f ∷ fs) is grown p = with_told (frames_told t (f ∷ fs)) refl
      where
        with_told : (ks : List Frame) → frames_told t (f ∷ fs) ≡ ks → owed_by prims t order (told t s) ≡ owed_by prims t order s
        with_told (h ∷ hs) so =
            let whole : frames_told t s.frames ≡ h ∷ hs = ap (frames_told t) is ∙ so in
            sym (run-keeps prims order t s [] (told t s) (scans_to_told prims order t s h hs (subst (StackGrows prims t) (sym is) grown) whole))
        with_told [] so =
            ap (owed_by prims t order) (ap (λ (l : List Frame). scan_told s l (frames_told t l)) is ∙ ap (scan_told s (f ∷ fs)) so)
            ∙ ended_owes prims order t s f fs (frames_told t (f ∷ fs)) is so (way prims t f fs grown) (λ ds asks. light prims before t ds from s cs asks run (inl idle)) p
            ∙ ap (λ (l : List Frame). tried prims t s.weight l ++ candidates_from prims t order s.iter.place) (sym is)

-- ---- a candidate that is tried by itself

-- the frames of what a scan is told as
pub frames_same : (t : Template) (m : Scan) → (told t m).frames ≡ frames_told t m.frames
frames_same t m = by m.frames refl
  where
    by : (l : List Frame) → m.frames ≡ l → (told t m).frames ≡ frames_told t m.frames
    by [] is = ap (λ (l : List Frame). (scan_told m l (frames_told t m.frames)).frames) is ∙ is ∙ sym (ap (frames_told t) is)
    by (f ∷ fs) is = ap (λ (l : List Frame). (scan_told m l (frames_told t m.frames)).frames) is ∙ with_told (frames_told t m.frames)
      where
        with_told : (ks : List Frame) → (scan_told m (f ∷ fs) ks).frames ≡ ks
        with_told [] = refl
        with_told (h ∷ hs) = refl

pub frames_told_alone : FramesToldAlone
frames_told_alone t i m = ap (scan_told (standing_at i m) m.frames) (sym (frames_same t m))

module _ (prims : List Primitive) (p : ℕ) where
  abbrev only : ScanOrder
  only = (0, p) ∷ []

  -- the first frame is that of the candidate
  abbrev Tries : List Frame → Type 0
  Tries [] = Unit {0}
  Tries (f ∷ fs) = f.place ≡ p

  picked_only : (t : Template) (a b : ℕ) (d : ℕ × ℕ) → order_from prims t only a ≡ d ∷ order_from prims t only b → d.1 ≡ p
  picked_only t a b d is = by (nat_le a 0 && passes_template prims t p) (order_from prims t only b) is
    where
      by : (x : Bool) (rest : ScanOrder) → cond x only [] ≡ d ∷ rest → d.1 ≡ p
      by true rest e = let same : (0, p) ≡ d = cc e in sym (ap (λ (c : ℕ × ℕ). c.1) same)
      by false rest e = absurd (cc e)

  stacks_try : (t : Template) (gs : List Frame) (d : ℕ) (hs : List Frame) → StackMoves prims t gs d hs → Tries gs → Tries hs
  stacks_try _ _ _ _ (frame_moves ds asked f gs d i ls hs step) tries = tries

  moves_try : (t : Template) (s m : Scan) (given : List Candidate) → ScanMoves prims only t s given m → Tries s.frames → Tries m.frames
  moves_try _ _ _ _ (scan_passes_over t s i is) tries = tries
  moves_try _ _ _ _ (picks t s c i j none is) tries = picked_only t s.iter.place i.place c is
  moves_try _ _ _ _ (frames_move t s d fs step) tries = stacks_try t s.frames d fs step tries
  moves_try _ _ _ _ (gives ds asked s f n o one ends) tries = tt

  runs_try : (t : Template) (s m : Scan) (given : List Candidate) → Runs prims only t s given m → Tries s.frames → Tries m.frames
  runs_try t _ _ _ (stays s) tries = tries
  runs_try t _ _ _ (moves s m n given later step rest) tries = runs_try t m n later rest (moves_try t s m given step tries)

pub told_owes_alone : ToldOwesAlone
told_owes_alone prims order t c i s m cs f fs idle behind is run some =
    told_owes prims order order t s (standing_at i m) cs idle (candidates_go_alone prims order t c i s m cs f fs idle is run some)
    (subst (Picked prims order t (standing_at i m)) (sym some) (record {
      from = s.iter.place;
      at = c.0;
      stands = behind;
      picked = is ∙ ap (λ (n : ℕ). c ∷ order_from prims t order n) behind ∙ ap (λ (x : ℕ). (c.0, x) ∷ order_from prims t order (c.0 + 1)) (sym place);
    }))
  where
    place : f.place ≡ c.1
    place = subst (Tries prims c.1) some (runs_try prims c.1 t start m cs run tt)

-- ---- it fits

module _ (prims : List Primitive) (end : ℕ) where
  -- frames, where their iterators stand within an end
  abbrev Placed : Template → List Frame → Type 0
  Placed t [] = Unit {0}
  Placed t (f ∷ fs) = IsPlaced prims one_member end t f fs

  placed_by : (clauses : Clauses) (f : Frame) (ls : TreeLists) (q : Parts) (deeper : List Frame) → current clauses ls ≡ Some q → iter_fits end 1 f.iter ≡ true → Placed q.2 deeper → ListsPlaced prims one_member end clauses f ls deeper
  placed_by no_clauses f ls q deeper at fits lower = absurd (cc at)
  placed_by (clause mode hop t rest) f no_lists q deeper at fits lower = absurd (cc at)
  placed_by (clause mode hop t rest) f (and_list ts no_lists) q [] at fits lower = fits
  placed_by (clause mode hop t rest) f (and_list ts no_lists) q (g ∷ gs) at fits lower =
      let same : q ≡ (mode, hop, t) = cc at in (fits, subst (λ (p : Parts). IsPlaced prims one_member end p.2 g gs) same lower)
  placed_by (clause mode hop t rest) f (and_list ts (and_list us ls)) q [] at fits lower = placed_by rest f (and_list us ls) q [] at fits lower
  placed_by (clause mode hop t rest) f (and_list ts (and_list us ls)) q (g ∷ gs) at fits lower = placed_by rest f (and_list us ls) q (g ∷ gs) at fits lower

  within : (f : Frame) → f.iter.place ≤ end → f.iter.accepted ≡ None → iter_fits end 1 f.iter ≡ true
  within f low none = and_from (nat_le f.iter.place end) (option_map_or (λ m. nat_lt m 1) f.iter.accepted true) (le-leb f.iter.place end low)
      (ap (λ (o : Option ℕ). option_map_or (λ m. nat_lt m 1) o true) none)

  last_placed : (cs : List Constraint) (clauses : Clauses) (f : Frame) (ls : TreeLists) → f.lists ≡ ls → ListsGrow prims clauses f.place ls [] → iter_fits end 1 f.iter ≡ true → Placed (template cs clauses) (last_told clauses f ls)
  last_placed cs no_clauses f no_lists is grows fits = tt
  last_placed cs no_clauses f (and_list ts ls) is grows fits = absurd grows
  last_placed cs (clause mode hop t rest) f no_lists is grows fits = and_from _ _ (le-leb 0 end (omega arith)) refl
  last_placed cs (clause mode hop t rest) f (and_list ts ls) is grows fits =
      let q = listed prims (clause mode hop t rest) f.place ts ls [] grows in
      subst (λ (ks : TreeLists). ListsPlaced prims one_member end (clause mode hop t rest) f ks []) (sym is) (placed_by (clause mode hop t rest) f (and_list ts ls) q.0 [] q.1.0 fits tt)

  above_placed : (cs : List Constraint) (clauses : Clauses) (f : Frame) (place : ℕ) (q : Parts) (hs : List Frame) → current clauses f.lists ≡ Some q → iter_fits end 1 f.iter ≡ true → Placed q.2 hs → Placed (template cs clauses) (above_told f place hs)
  above_placed cs clauses f place q [] at fits lower =
      placed_by clauses (with_tree f (tree place no_lists)) (with_tree f (tree place no_lists)).lists q [] (still clauses f.lists q (append (last_list f.lists) (and_tree (tree place no_lists) no_trees)) at) fits tt
  above_placed cs clauses f place q (h ∷ hs) at fits lower = placed_by clauses f f.lists q (h ∷ hs) at fits lower

  told_placed_at : (t : Template) (f : Frame) (fs : List Frame) → Grows prims t f fs → StandWithin end (f ∷ fs) → Placed t (frames_told t (f ∷ fs))
  told_placed_at (template cs clauses) f [] grows low = last_placed cs clauses f f.lists refl grows.1 (within f low.0 low.1)
  told_placed_at (template cs clauses) f (g ∷ gs) grows low =
      let q = below_it prims clauses f.place f.lists g gs grows.1 in
      subst (λ (u : Template). Placed (template cs clauses) (above_told f g.place (frames_told u (g ∷ gs)))) (sym (led_is cs clauses f.lists q.0 q.1.0))
      (above_placed cs clauses f g.place q.0 (frames_told q.0.2 (g ∷ gs)) q.1.0 (within f low.0 low.1) (told_placed_at q.0.2 g gs q.1.1 low.2))

pub told_placed : ToldPlaced
told_placed prims t s grows low = by s.frames refl grows low
  where
    Both : List Frame → Type 0
    Both l = StackGrows prims t l × StackPlaced prims one_member t l

    placed_again : (hs : List Frame) → Placed prims (length prims) t hs → StackPlaced prims one_member t hs
    placed_again [] p = tt
    placed_again (h ∷ hs) p = p

    by : (l : List Frame) → s.frames ≡ l → StackGrows prims t l → StandWithin (length prims) l → Both (told t s).frames
    by [] is grown lows = subst Both (sym (ap (λ (l : List Frame). (scan_told s l (frames_told t s.frames)).frames) is ∙ is)) (tt, tt)
    by (f ∷ fs) is grown lows = with_told (frames_told t (f ∷ fs)) refl
      where
        with_told : (ks : List Frame) → frames_told t (f ∷ fs) ≡ ks → Both (told t s).frames
        with_told [] so = subst (λ (m : Scan). Both m.frames) (sym (ap (λ (l : List Frame). scan_told s l (frames_told t l)) is ∙ ap (scan_told s (f ∷ fs)) so)) (tt, tt)
        with_told (h ∷ hs) so =
            let whole : frames_told t s.frames ≡ h ∷ hs = ap (frames_told t) is ∙ so in (
              runs_grow prims [] t s (told t s) [] (scans_to_told prims [] t s h hs (subst (StackGrows prims t) (sym is) grown) whole) (subst (StackGrows prims t) (sym is) grown),
              subst (λ (m : Scan). StackPlaced prims one_member t m.frames) (sym (told_is t s f fs h hs is whole))
                  (placed_again (h ∷ hs) (subst (Placed prims (length prims) t) so (told_placed_at prims (length prims) t f fs grown lows))),
            )

pub told_fits : ToldFits
told_fits prims t s grows low at none =
    let both = told_placed prims t s grows low in
    and_from _ _ (here s.frames refl) (grown_fit prims one_member t (told t s).frames both.0 both.1)
  where
    fits_at : (n : ℕ) (o : Option ℕ) → n ≤ length prims → o ≡ None → iter_fits (length prims) 1 (record { place = n; accepted = o }) ≡ true
    fits_at n o up is = and_from (nat_le n (length prims)) (option_map_or (λ m. nat_lt m 1) o true) (le-leb n (length prims) up)
        (ap (λ (o : Option ℕ). option_map_or (λ m. nat_lt m 1) o true) is)

    here : (l : List Frame) → s.frames ≡ l → iter_fits (length prims) 1 (told t s).iter ≡ true
    here [] is = subst (λ (m : Scan). iter_fits (length prims) 1 m.iter ≡ true) (sym (ap (λ (l : List Frame). scan_told s l (frames_told t s.frames)) is)) (fits_at s.iter.place s.iter.accepted at none)
    here (f ∷ fs) is = with_told (frames_told t (f ∷ fs)) refl
      where
        with_told : (ks : List Frame) → frames_told t (f ∷ fs) ≡ ks → iter_fits (length prims) 1 (told t s).iter ≡ true
        with_told [] so =
            subst (λ (m : Scan). iter_fits (length prims) 1 m.iter ≡ true) (sym (ap (λ (l : List Frame). scan_told s l (frames_told t l)) is ∙ ap (scan_told s (f ∷ fs)) so))
            (fits_at (s.iter.place - 1) None (omega (arith, at)) refl)
        with_told (h ∷ hs) so =
            subst (λ (m : Scan). iter_fits (length prims) 1 m.iter ≡ true) (sym (told_is t s f fs h hs is (ap (frames_told t) is ∙ so))) (fits_at s.iter.place s.iter.accepted at none)

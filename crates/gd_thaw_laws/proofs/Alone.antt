-- A candidate that is tried by itself goes as it goes where it belongs.
use Rattle.std.proofs.Common.{◌≡◌, refl, sym, ap, subst, ◌∙◌, ℕ, ◌+◌, List, [], ◌∷◌, ◌++◌, Bool, true, false, cond, ◌&&◌}
use Rattle.std.specs.Prelude.{nat_le, option_map}
use Rattle.gd_prim.specs.declared.Primitive.{Primitive}
use Rattle.gd_tree.specs.Trees.{tree}
use Rattle.gd_defs.specs.Template.{Template, passes_template}
use Rattle.gd_bytes.specs.Frozen.{IterAt, Frame, Scan}
use Rattle.gd_runs.specs.Owed.{ScanOrder, Candidate}
use Rattle.gd_match_laws.specs.PassedOn.{start}
use Rattle.gd_match_laws.specs.Moves.{order_from, fresh, StackMoves, frame_moves, ScanMoves, scan_passes_over, picks, frames_move, gives, Runs, stays, moves}
use Rattle.gd_thaw_laws.specs.Alone.{standing_at, FramesGoAlone, CandidatesGoAlone}

module _ (prims : List Primitive) (alone order : ScanOrder) (i : IterAt) where
  -- a move, in front of whatever follows
  front : (t : Template) (s m e : Scan) (cs ds : List Candidate) → order_from prims t alone s.iter.place ≡ [] → ScanMoves prims alone t s cs m
      → Runs prims order t (standing_at i m) ds e → Runs prims order t (standing_at i s) (cs ++ ds) e
  front _ _ _ e _ ds none (scan_passes_over t s j is) rest = rest
  front _ _ _ e _ ds none (picks t s c j k empty is) rest = absurd (cc (none, is))
  front _ _ _ e _ ds none (frames_move t s d fs step) rest = moves (standing_at i s) (record { iter = i; weight = s.weight + d; frames = fs }) e [] ds (frames_move t (standing_at i s) d fs step) rest
  front _ _ _ e _ ds none (gives ks asked s f n o is ends) rest =
      moves (standing_at i s) (record { iter = i; weight = n; frames = [] }) e (record { weight = s.weight; answer = option_map (tree f.place) o } ∷ []) ds (gives ks asked (standing_at i s) f n o is ends) rest

  -- nothing is left behind a move either
  still : (t : Template) (s m : Scan) (cs : List Candidate) → order_from prims t alone s.iter.place ≡ [] → ScanMoves prims alone t s cs m → order_from prims t alone m.iter.place ≡ []
  still _ _ _ _ none (scan_passes_over t s j is) = sym is ∙ none
  still _ _ _ _ none (picks t s c j k empty is) = absurd (cc (none, is))
  still _ _ _ _ none (frames_move t s d fs step) = none
  still _ _ _ _ none (gives ks asked s f n o is ends) = none

pub frames_go_alone : FramesGoAlone
frames_go_alone prims alone order t i _ _ _ none (stays s) = stays (standing_at i s)
frames_go_alone prims alone order t i _ _ _ none (moves s m e cs ds step rest) =
    front prims alone order i t s m (standing_at i e) cs ds none step (frames_go_alone prims alone order t i m e ds (still prims alone order i t s m cs none step) rest)

-- ---- from the start on

module _ (prims : List Primitive) (order : ScanOrder) (c : ℕ × ℕ) (i : IterAt) where
  abbrev only : ScanOrder
  only = (0, c.1) ∷ []

  -- of one candidate nothing is left behind it
  last : (t : Template) (a b : ℕ) (d : ℕ × ℕ) → order_from prims t only a ≡ d ∷ order_from prims t only b → (d ≡ (0, c.1)) × (order_from prims t only b ≡ [])
  last t a b d is = by (nat_le a 0 && passes_template prims t c.1) (nat_le b 0 && passes_template prims t c.1) is
    where
      by : (x y : Bool) → cond x only [] ≡ d ∷ cond y only [] → (d ≡ (0, c.1)) × (cond y only [] ≡ [])
      by true true e = cc e
      by true false e = (cc e, refl)
      by false y e = cc e

  -- a move of a scan of it alone that has not begun, where the order stands before it
  first : (t : Template) (s a b m : Scan) (cs ds : List Candidate) → s.frames ≡ [] → order_from prims t order s.iter.place ≡ c ∷ order_from prims t order i.place → a.frames ≡ [] → ScanMoves prims only t a cs b
      → (b.frames ≡ [] → Runs prims order t s ds (standing_at i m)) → Runs prims only t b ds m → Runs prims order t s (cs ++ ds) (standing_at i m)
  first _ s _ _ m _ ds idle is none (scan_passes_over t a j same) again rest = again none
  first _ s _ _ m _ ds idle is none (picks t a d j k empty found) again rest =
      let at : (d ≡ (0, c.1)) × (order_from prims t only j.place ≡ []) = last t a.iter.place j.place d found in
      moves s (record { iter = i; weight = 0; frames = fresh c.1 k ∷ [] }) (standing_at i m) [] ds (picks t s c i k idle is)
      (subst (λ (x : ℕ). Runs prims order t (record { iter = i; weight = 0; frames = fresh x k ∷ [] }) ds (standing_at i m)) (ap (λ (p : ℕ × ℕ). p.1) at.0)
      (frames_go_alone prims only order t i (record { iter = j; weight = 0; frames = fresh d.1 k ∷ [] }) m ds at.1 rest))
  first _ s _ _ m _ ds idle is none (frames_move t a d hs step) again rest = absurd (moved t a.frames d hs none step)
    where
      moved : (t : Template) (gs : List Frame) (d : ℕ) (hs : List Frame) → gs ≡ [] → StackMoves prims t gs d hs → ⊥
      moved _ _ _ _ e (frame_moves _ _ _ _ _ _ _ _ _) = cc e
  first _ s _ _ m _ ds idle is none (gives ks asked a g n o one ends) again rest = absurd (cc (none, one))

  -- a run of it
  begun : (t : Template) (s a m : Scan) (cs : List Candidate) (f : Frame) (fs : List Frame) → s.frames ≡ [] → order_from prims t order s.iter.place ≡ c ∷ order_from prims t order i.place → a.frames ≡ []
      → Runs prims only t a cs m → m.frames ≡ f ∷ fs → Runs prims order t s cs (standing_at i m)
  begun t s _ _ _ f fs idle is none (stays a) some = absurd (cc (none, some))
  begun t s _ _ _ f fs idle is none (moves a b m cs ds step rest) some = first t s a b m cs ds idle is none step (λ empty. begun t s b m ds f fs idle is empty rest some) rest

pub candidates_go_alone : CandidatesGoAlone
candidates_go_alone prims order t c i s m cs f fs idle is run some = begun prims order c i t s start m cs f fs idle is refl run some

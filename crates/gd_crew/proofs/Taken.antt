-- What is taken of workers, one after another.
use Rattle.std.proofs.Common.{◌≡◌, refl, ℕ, zero, suc, ◌+◌, ⊎_elim, Bool, true, false, MatchBool, List, [], ◌∷◌, ◌++◌, length, map, take, drop, set, Option, Some, None, slice_get, sym, subst, ap, ◌∙◌, arith, length-append, append_assoc, take-append-drop, Vec, Global}
use Rattle.std.specs.List.{All, AllByRecursion}
use Rattle.std.proofs.lemmas.List.{map-append}
use Rattle.std.proofs.lemmas.List.Elements.{All-cons, All-nil, All-head}
use mathlib.Core.List.{IsPrefix}
use Rattle.logbook.specs.Pages.{Book}
use Rattle.gd_prim.specs.declared.Batch.{Batch}
use Rattle.gd_runs.specs.Request.{ReadSet, reply_of}
use Rattle.gd_runs.specs.Side.{Begun}
use Rattle.gd_runs.proofs.Rounds.{no_some, some_same}
use Rattle.gd_round_lines.specs.declared.work.ReadLine.{ReadLine}
use Rattle.gd_round_lines.specs.declared.work.Works.{Works}
use Rattle.gd_round_lines.specs.declared.worked.Worked.{Worked}
use Rattle.gd_round_lines.specs.Works.{write_of}
use Rattle.gd_round_lines.specs.Worked.{IsWorked, AreWorked}
use Rattle.gd_round_lines.proofs.Read.{all_append, all_front, all_last}
use Rattle.gd_round_lines.proofs.Sets.{set_cases}
use Rattle.gd_crew.specs.declared.job.ReadReply.{ReadReply}
use Rattle.gd_crew.specs.declared.seated.Seated.{Seated}
use Rattle.gd_crew.specs.declared.worker.Worker.{Worker}
use Rattle.gd_crew.specs.Runs.{ReplyValue}
use Rattle.gd_crew.specs.Reading.{bytes_of}
use Rattle.gd_crew.specs.Seated.{reply_view}
use Rattle.gd_crew.specs.Ready.{IsManned}
use Rattle.gd_crew.specs.Joined.{RepliesTo, IsReplyOver, HasRead, HasWorked}
use Rattle.gd_crew.specs.Collected.{IsOfTable, IsFrontOf, TakesReplies, TakesSessions, TakesWorkers}

-- ---- replies

-- a reply that there was no memory to keep, or that has no place
pub takes_nothing : (first : ℕ) (rs : List ReplyValue) (was : List (Option Worked)) → TakesReplies first rs was was
takes_nothing first rs was reads batches limit list front all are = are

is_worked : (first : ℕ) (reads : List ReadLine) (batches : List Batch) (limit place line : ℕ) (list : List Batch) (w : Worked) → IsFrontOf batches limit list → RepliesTo reads list line w.at w.reply.items → line ≡ first + place
    → IsWorked first reads batches limit place w
is_worked first reads batches limit place line list w front to at = record {
  place = to.of.place;
  read = to.of.read;
  there = to.of.there;
  line = to.of.line_is ∙ at;
  entered = list;
  within = to.within;
  below = front.0;
  begins = front.1;
  is = to.is ∙ (ap (λ (n : ℕ). reply_of list w.at n to.request) (sym to.of.line_is) ∙ ap (λ (q : ReadSet). reply_of list w.at to.of.read.line q) (sym to.of.asks));
}

pub takes_reply : (first line place : ℕ) (w : Worked) (old new : List (Option Worked)) → new ≡ set old place (Some w) → line ≡ first + place → TakesReplies first (record { line = line; at = w.at; reply = Some w.reply.items } ∷ []) old new
takes_reply first line place w old new is at reads batches limit list front (to, none) are j x there =
    ⊎_elim
    (λ (here, same). subst (λ (n : ℕ). IsWorked first reads batches limit n x) (sym here) (subst (IsWorked first reads batches limit place) (some_same (sym same)) (is_worked first reads batches limit place line list w front to at)))
    (λ (other, old_at). are j x old_at)
    (set_cases old place j (Some w) (Some x) (subst (λ (ws : List (Option Worked)). slice_get ws j ≡ Some (Some x)) is there))

pub takes_view : (first : ℕ) (r : ReadReply) (bytes : Vec ℕ Global) (place : ℕ) (old new : List (Option Worked)) → r.reply ≡ Some bytes → new ≡ set old place (Some (record { at = r.at; reply = bytes })) → r.line ≡ first + place
    → TakesReplies first (reply_view r ∷ []) old new
takes_view first r bytes place old new has is at = subst (λ (o : Option (Vec ℕ Global)). TakesReplies first (record { line = r.line; at = r.at; reply = bytes_of o } ∷ []) old new) (sym has)
    (takes_reply first r.line place (record { at = r.at; reply = bytes }) old new is at)

pub replies_more : (first : ℕ) (all : List ReplyValue) (now rest : List ReadReply) (r : ReadReply) (a b c : List (Option Worked)) → now ≡ rest ++ r ∷ []
    → ((reads : List ReadLine) (list : List Batch) → AllByRecursion (IsReplyOver reads list) all → AllByRecursion (IsReplyOver reads list) (map reply_view now))
    → TakesReplies first all a b → TakesReplies first (reply_view r ∷ []) b c → TakesReplies first all a c
replies_more first all now rest r a b c is left done one reads batches limit list front each are =
    one reads batches limit list front
    (all_last (IsReplyOver reads list) (map reply_view rest) (reply_view r) (subst (AllByRecursion (IsReplyOver reads list)) (ap (map reply_view) is ∙ map-append reply_view rest (r ∷ [])) (left reads list each)), tt)
    (done reads batches limit list front each are)

pub replies_left : (all : List ReplyValue) (now rest : List ReadReply) (r : ReadReply) → now ≡ rest ++ r ∷ []
    → ((reads : List ReadLine) (list : List Batch) → AllByRecursion (IsReplyOver reads list) all → AllByRecursion (IsReplyOver reads list) (map reply_view now))
    → (reads : List ReadLine) (list : List Batch) → AllByRecursion (IsReplyOver reads list) all → AllByRecursion (IsReplyOver reads list) (map reply_view rest)
replies_left all now rest r is left reads list each =
    all_front (IsReplyOver reads list) (map reply_view rest) (reply_view r ∷ []) (subst (AllByRecursion (IsReplyOver reads list)) (ap (map reply_view) is ∙ map-append reply_view rest (r ∷ [])) (left reads list each))

-- ---- sessions

front_take : (xs ys : List Batch) → take (length xs) (xs ++ ys) ≡ xs
front_take [] ys = refl
front_take (x ∷ xs) ys = ap (λ (zs : List Batch). x ∷ zs) (front_take xs ys)

-- what begins the list that is shown begins the batches
fits : (batches shown entered : List Batch) → shown ≡ take (length shown) batches → IsPrefix entered shown → IsFrontOf batches (length shown) entered
fits batches shown entered is p =
    let long = sym (ap length p.1) ∙ length-append entered p.0 in
    let whole : batches ≡ entered ++ (p.0 ++ drop (length shown) batches) =
    sym (take-append-drop (length shown) batches) ∙ (ap (λ (xs : List Batch). xs ++ drop (length shown) batches) (sym is ∙ sym p.1) ∙ append_assoc entered p.0 (drop (length shown) batches)) in
    (omega (arith, long), sym (ap (take (length entered)) whole ∙ front_take entered (p.0 ++ drop (length shown) batches)))

pub takes_session : (first : ℕ) (table : Book) (shown : List Batch) (s : Seated) (old new : List (Option Worked)) → IsPrefix s.session.seat.entered shown → TakesReplies first (map reply_view s.replies.items) old new
    → TakesSessions first table shown (s ∷ []) old new
takes_session first table shown s old new p takes reads batches is all are =
    takes reads batches (length shown) s.session.seat.entered (fits batches shown s.session.seat.entered is p) (All-head (HasRead table reads) s [] all).replies are

-- what a test says where it passes
pub only_true : {P : Type 0} (Q : Type 0) (b : Bool) → MatchBool b P Q → b ≡ true → P
only_true Q true says is = says
only_true Q false says is = absurd (apart is)
  where
    apart : false ≡ true → ⊥
    apart e = cc

-- a session of which nothing is kept
pub passes_session : (first : ℕ) (table : Book) (shown : List Batch) (s : Seated) (was : List (Option Worked)) → TakesSessions first table shown (s ∷ []) was was
passes_session first table shown s was reads batches is all are = are

-- ---- one after another

all_split : {X : Type 0} (P : X → Type 0) (xs : List X) (x : X) → All P (xs ++ x ∷ []) → All P xs × P x
all_split P [] x all = (All-nil P, all 0 x (omega arith))
all_split P (y ∷ xs) x all = let (rest, last) = all_split P xs x (λ i d less. all (suc i) d (omega (arith, less))) in (All-cons P y xs (all 0 y (omega arith)) rest, last)

pub all_but_last : {X : Type 0} (P : X → Type 0) (now rest : List X) (x : X) → now ≡ rest ++ x ∷ [] → All P now → All P rest × P x
all_but_last P now rest x is all = all_split P rest x (subst (All P) is all)

pub sessions_more : (first : ℕ) (table : Book) (shown : List Batch) (all now rest : List Seated) (s : Seated) (a b c : List (Option Worked)) → now ≡ rest ++ s ∷ []
    → ((reads : List ReadLine) → All (HasRead table reads) all → All (HasRead table reads) now) → TakesSessions first table shown all a b → TakesSessions first table shown (s ∷ []) b c → TakesSessions first table shown all a c
sessions_more first table shown all now rest s a b c is left done one reads batches shows each are =
    one reads batches shows (All-cons (HasRead table reads) s [] (all_but_last (HasRead table reads) now rest s is (left reads each)).1 (All-nil (HasRead table reads))) (done reads batches shows each are)

pub workers_more : (first : ℕ) (table : Book) (shown : List Batch) (all now rest : List Worker) (w : Worker) (a b c : List (Option Worked)) → now ≡ rest ++ w ∷ []
    → ((reads : List ReadLine) → All (HasWorked table reads) all → All (HasWorked table reads) now) → TakesWorkers first table shown all a b → TakesSessions first table shown w.seated.items b c → TakesWorkers first table shown all a c
workers_more first table shown all now rest w a b c is left done one reads batches shows each are =
    one reads batches shows (all_but_last (HasWorked table reads) now rest w is (left reads each)).1 (done reads batches shows each are)

-- ---- whose seats they are

pub worked_of_table : (table : Book) (reads : List ReadLine) (ws : List Worker) → All (HasWorked table reads) ws → All (λ (w : Worker). All (IsOfTable table) w.seated.items) ws
worked_of_table table reads ws all k d less i e lt = (all k d less i e lt).of_table

pub manned_of_table : (table : Book) (works : Works) (ws : List Worker) → All (IsManned table works) ws → All (λ (w : Worker). All (IsOfTable table) w.seated.items) ws
manned_of_table table works ws all k d less i e lt = (((all k d less).sessions i e lt).begins any_round refl).of_table
  where
    any_round : Begun
    any_round = record { history = record { loaded = []; entries = [] }; shown = 0; doubt = None; faults = 0; lines = map write_of works.writes.items }

-- ---- places

pub none_yet : (ks : List (Option Worked)) → ks ≡ [] → AllByRecursion (λ (k : Option Worked). k ≡ None) ks
none_yet ks is = subst (AllByRecursion (λ (k : Option Worked). k ≡ None)) (sym is) tt

pub none_more : (ks more : List (Option Worked)) → AllByRecursion (λ (k : Option Worked). k ≡ None) ks → more ≡ ks ++ None ∷ [] → AllByRecursion (λ (k : Option Worked). k ≡ None) more
none_more ks more all is = subst (AllByRecursion (λ (k : Option Worked). k ≡ None)) (sym is) (all_append (λ (k : Option Worked). k ≡ None) ks (None ∷ []) all (refl, tt))

none_at : (ks : List (Option Worked)) (j : ℕ) (w : Worked) → AllByRecursion (λ (k : Option Worked). k ≡ None) ks → slice_get ks j ≡ Some (Some w) → ⊥
none_at [] j w all at = no_some at
none_at (k ∷ ks) zero w (one, rest) at = no_some (sym one ∙ some_same at)
none_at (k ∷ ks) (suc j) w (one, rest) at = none_at ks j w rest at

-- where nothing is kept, all is right that is kept
pub none_worked : (first : ℕ) (reads : List ReadLine) (batches : List Batch) (shown : ℕ) (worked : List (Option Worked)) → AllByRecursion (λ (k : Option Worked). k ≡ None) worked → AreWorked first reads batches shown worked
none_worked first reads batches shown worked all j w at = absurd (none_at worked j w all at)

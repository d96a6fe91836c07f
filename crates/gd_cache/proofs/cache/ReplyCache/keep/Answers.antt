use Rattle.std.proofs.Common.{◌≡◌, ap, sym, ◌∙◌, subst, List, None, inl}
use Rattle.std.specs.Map.{lookup}
use Rattle.lru.specs.LruCache.{LruCache}
use Rattle.gd_cache.specs.declared.key.ReplyKey.{ReplyKey}
use Rattle.gd_cache.specs.declared.key.Kept.{Kept}
use Rattle.gd_cache.specs.Hits.{same_key}
use Rattle.gd_cache.specs.Shown.{Shown, put}
use Rattle.gd_cache.proofs.Absent.{put-absent}
use Rattle.gd_cache.proofs.cache.ReplyCache.keep.Goals as goal

pub returns-in-Ok : goal.returns-in-Ok
returns-in-Ok c =
    let key = c.args.key in
    let kept = c.args.kept in
    let inside = c.self.inside in
    let seen : LruCache ReplyKey Kept → Shown = λ l. record { pairs = l.entries; most = l.cap; hits = inside.hits; refused = inside.refused } in
    let of_pairs : List (ReplyKey × Kept) → Shown = λ l. record { pairs = l; most = inside.cache.cap; hits = inside.hits; refused = inside.refused } in
    let absent = subst (λ s. lookup (same_key key) s.pairs ≡ None) (sym c.self.view_is) c.requires in
    inl (ap seen c.in-Ok.ensures.entries ∙ ap of_pairs (put-absent same_key inside.cache key kept absent) ∙ ap (λ s. put s key kept) c.self.view_is)

use Rattle.std.proofs.Common.{◌+◌, drop, sym, ap, ◌∙◌, arith}
use Rattle.json.specs.Value.{members_view as map_view}
use Rattle.gd_json.specs.Text.{members_data, entries_data}
use Rattle.gd_json.proofs.Parts.{left_at}
use Rattle.gd_json.proofs.Entries.{put_entry}
use Rattle.gd_json.proofs.tree.by_name.Goals as goal

pub loop-member-preserved : goal.loop-member-preserved
loop-member-preserved c =
    let items = c.args.members.now.items in
    let i = c.loop-member.member-index in
    let old = c.loop-member.found.entries in
    ap (λ found. members_data (map_view (drop (i + 1) items)) found) (ap entries_data c.in_ok-insert.ensures.entries ∙ put_entry old _ _)
    ∙ sym (ap (λ left. members_data (map_view left) (entries_data old)) (left_at items i c.member-item.result (grind arith) (grind arith)))
    ∙ c.loop-member.invariant

-- Frozen texts, read and spelled, and how far bad ones go.
use Rattle.std.specs.Fmt.{digits}
use Rattle.std.proofs.Common.{◌≡◌, refl, [], ◌∷◌, codes, Ok, Err, Some, None}
use Rattle.gd_tree.specs.Trees.{tree, no_trees, and_tree, no_lists, and_list}
use Rattle.gd_bytes.specs.Frozen.{Frozen, spelling, scanning, printing, by_guid, is_root, by_links}
use Rattle.gd_bytes.specs.FrozenRead.{frozen_of}

abbrev scanned : Frozen
scanned = record {
  dateline = 7;
  after = None;
  rows = record { object = 3; keys = Some 5 ∷ None ∷ [] } ∷ record { object = 9; keys = [] } ∷ [];
  body = scanning (record {
    iter = record { place = 40; accepted = Some 2 };
    weight = 3;
    frames = record { place = 2; iter = record { place = 3; accepted = None }; lists = and_list (and_tree (tree 8 no_lists) (and_tree (tree 9 (and_list no_trees no_lists)) no_trees)) no_lists } ∷ [];
  });
}

pub scanned_text : spelling scanned ≡ codes "f1:7:-:[3,5,-;9]:s[40?2,3;2,3,([8;9([])])]"
unfolding digits
scanned_text = refl

pub scanned_read : frozen_of (codes "f1:7:-:[3,5,-;9]:s[40?2,3;2,3,([8;9([])])]") ≡ Ok scanned
scanned_read = refl

pub printed_read : frozen_of (codes "f1:0:(4,5):[]:p12:[]:[g;/;19,20]") ≡ Ok (record { dateline = 0; after = Some (record { object = 4; keys = Some 5 ∷ [] }); rows = []; body = printing 12 no_trees (by_guid ∷ is_root ∷ by_links (19 ∷ 20 ∷ []) ∷ []) })
printed_read = refl

pub second_zero : frozen_of (codes "f1:00") ≡ Err 4
second_zero = refl

pub too_great : frozen_of (codes "f1:4194304:-:[]:s[0,0]") ≡ Err 9
too_great = refl

pub five_keys : frozen_of (codes "f1:1:-:[1,2,3,4,5,6]:s[0,0]") ≡ Err 17
five_keys = refl

pub behind : frozen_of (codes "f1:1:-:[]:s[0,0]]") ≡ Err 16
behind = refl

pub unfinished : frozen_of (codes "f1:1:-:[]:b0:[1(") ≡ Err 16
unfinished = refl

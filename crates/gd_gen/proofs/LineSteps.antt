-- Lines of nodes and of reads, taken off one by one.
use Rattle.std.proofs.Common.{◌≡◌, refl, ℕ, zero, suc, ◌+◌, ◌-◌, ◌<◌, ◌≤◌, List, [], ◌++◌, ◌∙◌, sym, ap, append_assoc, append-nil, arith}
use Rattle.gd_gen.specs.Draws.{following}
use Rattle.gd_gen.specs.Lines.{later_node, later_nodes, first_node, nodes, read_lines, count_line}

-- so many nodes are one and those behind it
one_node : (left more i x : ℕ) → left ≡ more + 1 → later_nodes left i x ≡ later_node i x ++ later_nodes more (i + 1) (following (following x))
unfolding later_nodes
one_node zero more i x e = absurd (omega arith)
one_node (suc left) more i x e = let h : left ≡ more = omega arith in ap (λ n. later_node i x ++ later_nodes n (i + 1) (following (following x))) h

-- nodes below an end are the first of them and those behind it
next_node : (end i x : ℕ) → i < end → later_nodes (end - i) i x ≡ later_node i x ++ later_nodes (end - (i + 1)) (i + 1) (following (following x))
next_node end i x h = one_node (end - i) (end - (i + 1)) i x (omega arith)

-- none are left
none_left : (left i x : ℕ) → left ≡ 0 → later_nodes left i x ≡ []
unfolding later_nodes
none_left zero i x e = refl
none_left (suc left) i x e = absurd (omega arith)

-- at the end there are none
no_node : (end i x : ℕ) → end ≤ i → later_nodes (end - i) i x ≡ []
no_node end i x h = none_left (end - i) i x (omega arith)

-- where there are nodes, they are the first one and the others
first_and_later : (count number : ℕ) → 0 < count → nodes count number ≡ first_node number ++ later_nodes (count - 1) 2 (following number)
unfolding nodes
first_and_later zero number h = absurd (omega arith)
first_and_later (suc left) number h = let e : left ≡ suc left - 1 = omega arith in ap (λ n. first_node number ++ later_nodes n 2 (following number)) e

-- so many reads are one and those behind it
one_read : (members : List ℕ) (left more k : ℕ) → left ≡ more + 1 → read_lines members left k ≡ count_line k members ++ read_lines members more (k + 1)
unfolding read_lines
one_read members zero more k e = absurd (omega arith)
one_read members (suc left) more k e = let h : left ≡ more = omega arith in ap (λ n. count_line k members ++ read_lines members n (k + 1)) h

-- reads below an end are the first of them and those behind it
next_read : (members : List ℕ) (end k : ℕ) → k < end → read_lines members (end - k) k ≡ count_line k members ++ read_lines members (end - (k + 1)) (k + 1)
next_read members end k h = one_read members (end - k) (end - (k + 1)) k (omega arith)

-- no reads are left
no_reads_left : (members : List ℕ) (left k : ℕ) → left ≡ 0 → read_lines members left k ≡ []
unfolding read_lines
no_reads_left members zero k e = refl
no_reads_left members (suc left) k e = absurd (omega arith)

-- at the end there are none
no_read : (members : List ℕ) (end k : ℕ) → end ≤ k → read_lines members (end - k) k ≡ []
no_read members end k h = no_reads_left members (end - k) k (omega arith)

-- a line more is written: with those that are left it is still all
pub with_node : (written longer all : List ℕ) (end i x y : ℕ) → i < end → longer ≡ written ++ later_node i x → y ≡ following (following x)
    → written ++ later_nodes (end - i) i x ≡ all → longer ++ later_nodes (end - (i + 1)) (i + 1) y ≡ all
with_node written longer all end i x y h line draws kept =
    rw (line, draws) (append_assoc written (later_node i x) (later_nodes (end - (i + 1)) (i + 1) (following (following x))) ∙ ap (λ n. written ++ n) (sym (next_node end i x h)) ∙ kept)

-- at the end what is written is all
pub all_nodes : (written all : List ℕ) (end i x : ℕ) → end ≤ i → written ++ later_nodes (end - i) i x ≡ all → written ≡ all
all_nodes written all end i x h kept = sym (append-nil written) ∙ ap (λ n. written ++ n) (sym (no_node end i x h)) ∙ kept

-- a read more is written: with those that are left it is still all
pub with_read : (members written longer all : List ℕ) (end k : ℕ) → k < end → longer ≡ written ++ count_line k members
    → written ++ read_lines members (end - k) k ≡ all → longer ++ read_lines members (end - (k + 1)) (k + 1) ≡ all
with_read members written longer all end k h line kept =
    rw line (append_assoc written (count_line k members) (read_lines members (end - (k + 1)) (k + 1)) ∙ ap (λ n. written ++ n) (sym (next_read members end k h)) ∙ kept)

-- at the end what is written is all
pub all_reads : (members written all : List ℕ) (end k : ℕ) → end ≤ k → written ++ read_lines members (end - k) k ≡ all → written ≡ all
all_reads members written all end k h kept = sym (append-nil written) ∙ ap (λ n. written ++ n) (sym (no_read members end k h)) ∙ kept

-- the first line and the later ones are all nodes
pub whole_nodes : (written longer whole : List ℕ) (count number from x : ℕ) → 0 < count → from ≡ number → longer ≡ written ++ first_node from → x ≡ following from
    → whole ≡ longer ++ later_nodes (count - 1) 2 x → whole ≡ written ++ nodes count number
whole_nodes written longer whole count number from x h start first draw later =
    later ∙ rw (first, draw, start) (append_assoc written (first_node number) (later_nodes (count - 1) 2 (following number))) ∙ ap (λ n. written ++ n) (sym (first_and_later count number h))

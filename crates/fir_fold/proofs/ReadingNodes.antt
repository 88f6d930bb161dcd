-- A node as the code reads it, and what it asks of and is given by its rule.
use Rattle.std.proofs.Common.{◌≡◌, ℕ, List, get_or, sym, ap, ◌∙◌, subst}
use Rattle.std.specs.Prelude.{slice_get, Some}
use Rattle.std.proofs.lemmas.Option.{get_or_from_slice_get}
use Rattle.fir_net.specs.declared.leaf.Leaf.{Leaf}
use Rattle.fir_net.specs.declared.node.Node.{Node}
use Rattle.fir_net.specs.working.IsNet.{IsNode}
use Rattle.fir_fold_rules.specs.declared.replacement.Replacement.{Replacement}
use Rattle.fir_fold_rules.specs.working.Simplifies.{Simplifies}
use Rattle.fir_fold.specs.working.Standing.{node_read}
use Rattle.fir_fold.specs.working.Walking.{Walking, read_by}

pub item_is : {A : Type 0} → (xs ys : List A) (i k : ℕ) (d n : A) → xs ≡ ys → i ≡ k → slice_get ys k ≡ Some n → get_or xs i d ≡ n
item_is xs ys i k d n e f at = ap (λ zs. get_or zs i d) e ∙ ap (λ j. get_or ys j d) f ∙ get_or_from_slice_get ys k n d at

pub is_ready : (leaves given : List Leaf) (w v : Walking) (n x y : Node) → given ≡ leaves → v ≡ w → x ≡ n → y ≡ node_read (read_by v) x → IsNode leaves w.nodes (node_read (read_by w) n) → IsNode given v.nodes y
is_ready leaves given w v n x y e f g i h =
    subst (IsNode given v.nodes) (sym i)
    (subst (λ (u : Walking). IsNode given u.nodes (node_read (read_by u) x)) (sym f)
    (subst (λ (z : Node). IsNode given w.nodes (node_read (read_by w) z)) (sym g)
    (subst (λ (ls : List Leaf). IsNode ls w.nodes (node_read (read_by w) n)) (sym e) h)))

pub is_simplified : (leaves given : List Leaf) (w v : Walking) (n x y : Node) (b : Replacement) → given ≡ leaves → v ≡ w → x ≡ n → y ≡ node_read (read_by v) x → Simplifies given v.nodes y b → Simplifies leaves w.nodes (node_read (read_by w) n) b
is_simplified leaves given w v n x y b e f g i h =
    subst (λ (ls : List Leaf). Simplifies ls w.nodes (node_read (read_by w) n) b) e
    (subst (λ (z : Node). Simplifies given w.nodes (node_read (read_by w) z) b) g
    (subst (λ (u : Walking). Simplifies given u.nodes (node_read (read_by u) x) b) f
    (subst (λ (z : Node). Simplifies given v.nodes z b) i h)))

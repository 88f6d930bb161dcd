-- Registers, arrays and wires stand before all assigns and blocks, so each of these names nets and arrays that are declared before it; those of clock outputs name ports.
use Rattle.std.proofs.Common.{◌≡◌, ℕ, List, [], ◌∷◌, ◌++◌, inl, inr, ⊎_elim}
use Rattle.std.specs.Prelude.{map}
use Rattle.std.specs.List.{AllByRecursion}
use Rattle.fir_base.specs.Lists.{In}
use Rattle.fir_base.proofs.Each.{each_more}
use Rattle.fir_base.proofs.Members.{in_left, in_right, in_either}
use Rattle.ver_ast.specs.declared.tree.Array.{Array as TreeArray}
use Rattle.ver_ast.specs.declared.tree.Net.{Net}
use Rattle.ver_ast.specs.declared.tree.Assign.{Assign}
use Rattle.ver_ast.specs.Nets.{AlwaysBlock, plain_block, resetting_block, writing_block}
use Rattle.ver_ast.specs.declared.tree.Item.{Item}
use Rattle.ver_ast.specs.declared.tree.Item.TheVariants as item
use Rattle.ver_ast.specs.Names.{rhs_names}
use Rattle.ver_ast.specs.ItemNames.{item_names, rhs_arrays}
use Rattle.ver_ast.specs.Valid.{DeclaredBefore}
use Rattle.ver_build.specs.Arranged.{block_item}
use Rattle.ver_build.specs.working.Built.{items}
use Rattle.ver_build.proofs.Fitting.{AssignAmong, BlockAmong}

abbrev pub Within : List (List ℕ) → List (List ℕ) → Type 0
Within xs ys = (x : List ℕ) → In xs x → In ys x

abbrev pub net_name : Net → List ℕ
net_name n = n.name

assigns_declared : (known all : List (List ℕ)) (xs : List Assign) (rest : List Item) → Within all known → AllByRecursion (AssignAmong all) xs
    → DeclaredBefore known rest → DeclaredBefore known (map item.Assign xs ++ rest)
assigns_declared known all [] rest h a d = d
assigns_declared known all (b ∷ xs) rest h a d =
    ((h b.target a.0.target, each_more (rhs_arrays b.rhs ++ rhs_names b.rhs) all known h a.0.sources), assigns_declared known all xs rest h a.1 d)

blocks_declared : (known all : List (List ℕ)) (bs : List AlwaysBlock) → Within all known → AllByRecursion (BlockAmong all) bs
    → DeclaredBefore known (map block_item bs)
blocks_declared known all [] h a = tt
blocks_declared known all (plain_block b ∷ bs) h a =
    (each_more (item_names (item.Always b)) all known h a.0, blocks_declared known all bs h a.1)
blocks_declared known all (resetting_block b ∷ bs) h a =
    (each_more (item_names (item.Resetting b)) all known h a.0, blocks_declared known all bs h a.1)
blocks_declared known all (writing_block b ∷ bs) h a =
    (each_more (item_names (item.Writing b)) all known h a.0, blocks_declared known all bs h a.1)

-- declarations, with the names that are known behind them
all_declared : {A : Type 0} → (name : A → List ℕ) (c : A → Item)
    → ((known : List (List ℕ)) (n : A) (rest : List Item) → DeclaredBefore (name n ∷ known) rest → DeclaredBefore known (c n ∷ rest))
    → (known : List (List ℕ)) (ns : List A) (rest : List Item)
    → ((after : List (List ℕ)) → Within (known ++ map name ns) after → DeclaredBefore after rest) → DeclaredBefore known (map c ns ++ rest)
all_declared name c step known [] rest go = go known (λ x m. ⊎_elim (λ (k : In known x). k) (λ (k : ⊥). absurd k) (in_either known [] x m))
all_declared name c step known (n ∷ ns) rest go =
    step known n (map c ns ++ rest) (all_declared name c step (name n ∷ known) ns rest (λ after h. go after (λ x m. h x (moved x m))))
  where
    moved : (x : List ℕ) → In (known ++ name n ∷ map name ns) x → In (name n ∷ (known ++ map name ns)) x
    moved x m =
        ⊎_elim
        (λ (k : In known x). inr (in_left known (map name ns) x k))
        (λ (k : In (name n ∷ map name ns) x). ⊎_elim (λ (e : name n ≡ x). inl e)
        (λ (o : In (map name ns) x). inr (in_right known (map name ns) x o)) k)
        (in_either known (name n ∷ map name ns) x m)

-- what is within stays within with more behind both
more_within : (xs ys zs : List (List ℕ)) → Within xs ys → Within (xs ++ zs) (ys ++ zs)
more_within xs ys zs h x m =
    ⊎_elim (λ (k : In xs x). in_left ys zs x (h x k)) (λ (k : In zs x). in_right ys zs x k) (in_either xs zs x m)

abbrev pub tree_name : TreeArray → List ℕ
tree_name a = a.name

-- what is known behind registers, arrays and wires
abbrev pub all_known : List (List ℕ) → List Net → List TreeArray → List Net → List (List ℕ)
all_known known rs ks ws = ((known ++ map net_name rs) ++ map tree_name ks) ++ map net_name ws

pub items_declared : (known all : List (List ℕ)) (rs : List Net) (ks : List TreeArray) (ws : List Net) (xs cs : List Assign) (bs : List AlwaysBlock)
    → Within all (all_known known rs ks ws)
    → AllByRecursion (AssignAmong all) xs → AllByRecursion (AssignAmong known) cs → AllByRecursion (BlockAmong (known ++ all)) bs
    → DeclaredBefore known (items rs ks ws xs cs bs)
items_declared known all rs ks ws xs cs bs among assigned shown blocked =
    all_declared net_name item.Reg (λ k n rest d. (tt, d)) known rs
    (map item.Array ks ++ (map item.Wire ws ++ (map item.Assign xs ++ (map item.Assign cs ++ map block_item bs))))
    (λ after h. all_declared tree_name item.Array (λ k n rest d. (tt, d)) after ks
    (map item.Wire ws ++ (map item.Assign xs ++ (map item.Assign cs ++ map block_item bs)))
    (λ next g. all_declared net_name item.Wire (λ k n rest d. (tt, d)) next ws (map item.Assign xs ++ (map item.Assign cs ++ map block_item bs))
    (λ last k. driven last
    (λ x m. k x (more_within ((known ++ map net_name rs) ++ map tree_name ks) next (map net_name ws) (λ y n. g y (more_within (known ++ map net_name rs) after (map tree_name ks) h y n)) x (among x m)))
    (λ x m. k x (in_left next (map net_name ws) x (g x (in_left after (map tree_name ks) x (h x (in_left known (map net_name rs) x m)))))))))
  where
    driven : (last : List (List ℕ)) → Within all last → Within known last
        → DeclaredBefore last (map item.Assign xs ++ (map item.Assign cs ++ map block_item bs))
    driven last h k =
        assigns_declared last all xs (map item.Assign cs ++ map block_item bs) h assigned
        (assigns_declared last known cs (map block_item bs) k shown (blocks_declared last (known ++ all) bs either blocked))
      where
        either : Within (known ++ all) last
        either x m = ⊎_elim (λ (n : In known x). k x n) (λ (n : In all x). h x n) (in_either known all x m)

-- What registers, arrays, wires, assigns and blocks declare and drive, where they stand one behind the other.
use Rattle.std.proofs.Common.{◌≡◌, ℕ, ◌+◌, List, [], ◌∷◌, ◌++◌, true, false, refl, ap, ◌∙◌, inl, inr, ⊎_elim, append-nil}
use Rattle.std.specs.Prelude.{map, flat_map}
use Rattle.std.proofs.lemmas.Grind.{flat_map-append}
use Rattle.fir_base.specs.Lists.{In}
use Rattle.fir_base.specs.Words.{is_among}
use Rattle.ver_ast.specs.declared.tree.Net.{Net}
use Rattle.ver_ast.specs.declared.tree.Array.{Array as TreeArray}
use Rattle.ver_ast.specs.declared.tree.Assign.{Assign}
use Rattle.ver_ast.specs.declared.tree.Always.{Always}
use Rattle.ver_ast.specs.declared.tree.Resetting.{Resetting}
use Rattle.ver_ast.specs.declared.tree.Writing.{Writing}
use Rattle.ver_ast.specs.declared.tree.Item.{Item}
use Rattle.ver_ast.specs.declared.tree.Item.TheVariants as item
use Rattle.ver_ast.specs.Nets.{SizedNet, Variable, AlwaysBlock, plain_block, resetting_block, writing_block, wire_net, reg_net, item_net, item_array, item_assign, item_clock_assign, item_block}
use Rattle.ver_ast.proofs.Chosen.{is_named, in_or_not}
use Rattle.ver_build.specs.Arranged.{block_item}
use Rattle.ver_build.specs.working.Built.{items}

abbrev pub net_sized : Net → SizedNet
net_sized n = (n.name, n.width)

abbrev pub array_sized : TreeArray → Variable
array_sized a = record { name = a.name; width = a.width; depth = a.last + 1 }

none_among : {A C : Type 0} → (f : Item → List C) (c : A → Item) (xs : List A) → ((x : A) → In xs x → f (c x) ≡ []) → flat_map f (map c xs) ≡ []
none_among f c [] e = refl
none_among f c (x ∷ xs) e = rw (e x (inl refl)) (none_among f c xs (λ y m. e y (inr m)))

each_among : {A C : Type 0} → (f : Item → List C) (c : A → Item) (h : A → C) (xs : List A) → ((x : A) → In xs x → f (c x) ≡ h x ∷ [])
    → flat_map f (map c xs) ≡ map h xs
each_among f c h [] e = refl
each_among f c h (x ∷ xs) e = rw (e x (inl refl)) (ap (λ ys. h x ∷ ys) (each_among f c h xs (λ y m. e y (inr m))))

none_of : {A C : Type 0} → (f : Item → List C) (c : A → Item) → ((x : A) → f (c x) ≡ []) → (xs : List A) → flat_map f (map c xs) ≡ []
none_of f c e xs = none_among f c xs (λ x m. e x)

each_of : {A C : Type 0} → (f : Item → List C) (c : A → Item) (h : A → C) → ((x : A) → f (c x) ≡ h x ∷ []) → (xs : List A)
    → flat_map f (map c xs) ≡ map h xs
each_of f c h e xs = each_among f c h xs (λ x m. e x)

same_map : {A : Type 0} → (xs : List A) → map (λ (x : A). x) xs ≡ xs
same_map [] = refl
same_map (x ∷ xs) = ap (λ ys. x ∷ ys) (same_map xs)

-- what blocks give that no item of a block gives
block_gives : {C : Type 0} → (f : Item → List C) → ((b : Always) → f (item.Always b) ≡ []) → ((b : Resetting) → f (item.Resetting b) ≡ [])
    → ((b : Writing) → f (item.Writing b) ≡ []) → (b : AlwaysBlock) → f (block_item b) ≡ []
block_gives f x y z (plain_block b) = x b
block_gives f x y z (resetting_block b) = y b
block_gives f x y z (writing_block b) = z b

one_block : (b : AlwaysBlock) → item_block (block_item b) ≡ b ∷ []
one_block (plain_block b) = refl
one_block (resetting_block b) = refl
one_block (writing_block b) = refl

-- a name that is among others, or is none of them
one_if : (outs : List (List ℕ)) (a : Assign) → In outs a.target → item_assign outs (item.Assign a) ≡ []
one_if outs a m = let among : is_among outs a.target ≡ true = is_named outs a.target m in rw among refl

one_unless : (outs : List (List ℕ)) (a : Assign) → (In outs a.target → ⊥) → item_assign outs (item.Assign a) ≡ a ∷ []
one_unless outs a n =
    ⊎_elim (λ (m : In outs a.target). absurd (n m)) (λ (e : is_among outs a.target ≡ false). rw e refl) (in_or_not outs a.target)

clock_if : (outs : List (List ℕ)) (a : Assign) → In outs a.target → item_clock_assign outs (item.Assign a) ≡ a ∷ []
clock_if outs a m = let among : is_among outs a.target ≡ true = is_named outs a.target m in rw among refl

clock_unless : (outs : List (List ℕ)) (a : Assign) → (In outs a.target → ⊥) → item_clock_assign outs (item.Assign a) ≡ []
clock_unless outs a n =
    ⊎_elim (λ (m : In outs a.target). absurd (n m)) (λ (e : is_among outs a.target ≡ false). rw e refl) (in_or_not outs a.target)

module _ (rs : List Net) (ks : List TreeArray) (ws : List Net) (xs cs : List Assign) (bs : List AlwaysBlock) where
  by_parts : {C : Type 0} → (f : Item → List C)
      → flat_map f (items rs ks ws xs cs bs) ≡ flat_map f (map item.Reg rs) ++
      (flat_map f (map item.Array ks) ++ (flat_map f (map item.Wire ws) ++ (flat_map f (map item.Assign xs) ++ (flat_map f (map item.Assign cs) ++ flat_map f (map block_item bs)))))
  by_parts f = simp flat_map-append

  pub registers_among : flat_map reg_net (items rs ks ws xs cs bs) ≡ map net_sized rs
  registers_among =
      by_parts reg_net ∙ rw (
        none_of reg_net item.Array (λ x. refl) ks,
        none_of reg_net item.Wire (λ x. refl) ws,
        none_of reg_net item.Assign (λ x. refl) xs,
        none_of reg_net item.Assign (λ x. refl) cs,
        none_of reg_net block_item (block_gives reg_net (λ b. refl) (λ b. refl) (λ b. refl)) bs,
      )
      (append-nil (flat_map reg_net (map item.Reg rs)) ∙ each_of reg_net item.Reg net_sized (λ x. refl) rs)

  pub wires_among : flat_map wire_net (items rs ks ws xs cs bs) ≡ map net_sized ws
  wires_among =
      by_parts wire_net ∙ rw (
        none_of wire_net item.Array (λ x. refl) ks,
        none_of wire_net item.Reg (λ x. refl) rs,
        none_of wire_net item.Assign (λ x. refl) xs,
        none_of wire_net item.Assign (λ x. refl) cs,
        none_of wire_net block_item (block_gives wire_net (λ b. refl) (λ b. refl) (λ b. refl)) bs,
      )
      (append-nil (flat_map wire_net (map item.Wire ws)) ∙ each_of wire_net item.Wire net_sized (λ x. refl) ws)

  pub nets_among : flat_map item_net (items rs ks ws xs cs bs) ≡ map net_sized rs ++ map net_sized ws
  nets_among =
      by_parts item_net ∙ rw (
        none_of item_net item.Array (λ x. refl) ks,
        none_of item_net item.Assign (λ x. refl) xs,
        none_of item_net item.Assign (λ x. refl) cs,
        none_of item_net block_item (block_gives item_net (λ b. refl) (λ b. refl) (λ b. refl)) bs,
        each_of item_net item.Reg net_sized (λ x. refl) rs,
        each_of item_net item.Wire net_sized (λ x. refl) ws,
      )
      (ap (λ ns. map net_sized rs ++ ns) (append-nil (map net_sized ws)))

  -- the clock outputs are driven by assigns of their own
  module _ (outs : List (List ℕ)) (others : (a : Assign) → In xs a → In outs a.target → ⊥) (own : (a : Assign) → In cs a → In outs a.target) where
    pub assigns_among : flat_map (item_assign outs) (items rs ks ws xs cs bs) ≡ xs
    assigns_among =
        by_parts (item_assign outs) ∙ rw (
          none_of (item_assign outs) item.Array (λ x. refl) ks,
          none_of (item_assign outs) item.Reg (λ x. refl) rs,
          none_of (item_assign outs) item.Wire (λ x. refl) ws,
          none_among (item_assign outs) item.Assign cs (λ a m. one_if outs a (own a m)),
          none_of (item_assign outs) block_item (block_gives (item_assign outs) (λ b. refl) (λ b. refl) (λ b. refl)) bs,
        )
        (append-nil (flat_map (item_assign outs) (map item.Assign xs))
        ∙ each_among (item_assign outs) item.Assign (λ x. x) xs (λ a m. one_unless outs a (others a m)) ∙ same_map xs)

    pub clock_assigns_among : flat_map (item_clock_assign outs) (items rs ks ws xs cs bs) ≡ cs
    clock_assigns_among =
        by_parts (item_clock_assign outs) ∙ rw (
          none_of (item_clock_assign outs) item.Array (λ x. refl) ks,
          none_of (item_clock_assign outs) item.Reg (λ x. refl) rs,
          none_of (item_clock_assign outs) item.Wire (λ x. refl) ws,
          none_among (item_clock_assign outs) item.Assign xs (λ a m. clock_unless outs a (others a m)),
          none_of (item_clock_assign outs) block_item (block_gives (item_clock_assign outs) (λ b. refl) (λ b. refl) (λ b. refl)) bs,
        )
        (append-nil (flat_map (item_clock_assign outs) (map item.Assign cs))
        ∙ each_among (item_clock_assign outs) item.Assign (λ x. x) cs (λ a m. clock_if outs a (own a m)) ∙ same_map cs)

  pub arrays_among : flat_map item_array (items rs ks ws xs cs bs) ≡ map array_sized ks
  arrays_among =
      by_parts item_array ∙ rw (
        none_of item_array item.Reg (λ x. refl) rs,
        none_of item_array item.Wire (λ x. refl) ws,
        none_of item_array item.Assign (λ x. refl) xs,
        none_of item_array item.Assign (λ x. refl) cs,
        none_of item_array block_item (block_gives item_array (λ b. refl) (λ b. refl) (λ b. refl)) bs,
      )
      (append-nil (flat_map item_array (map item.Array ks)) ∙ each_of item_array item.Array array_sized (λ x. refl) ks)

  pub blocks_among : flat_map item_block (items rs ks ws xs cs bs) ≡ bs
  blocks_among =
      by_parts item_block ∙ rw (
        none_of item_block item.Array (λ x. refl) ks,
        none_of item_block item.Reg (λ x. refl) rs,
        none_of item_block item.Wire (λ x. refl) ws,
        none_of item_block item.Assign (λ x. refl) xs,
        none_of item_block item.Assign (λ x. refl) cs,
      )
      (each_of item_block block_item (λ x. x) one_block bs ∙ same_map bs)

-- The assigns of the tree are those of the inner nets and of the outputs that have a name.
use Rattle.std.proofs.Common.{◌≡◌, ℕ, suc, List, [], ◌∷◌, map, refl, sym, inl, inr, ◌⊎◌, ⊎_elim, subst, ap, ◌∙◌, Option, Some, None}
use Rattle.std.specs.Prelude.{slice_get}
use Rattle.fir_base.specs.Lists.{In}
use Rattle.fir_base.proofs.Members.{in_map, in_map_from, in_left, in_right, in_either}
use Rattle.fir_net.specs.declared.reads.Read.{Read}
use Rattle.fir_net.specs.declared.leaf.Role.{Role}
use Rattle.fir_net.specs.declared.leaf.Role.TheVariants as role
use Rattle.fir_net.specs.declared.leaf.Leaf.{Leaf}
use Rattle.fir_net.specs.declared.net.FlatNet.{FlatNet}
use Rattle.fir_net_names.specs.declared.name_table.NameTable.{NameTable}
use Rattle.ver_ast.specs.declared.tree.Assign.{Assign}
use Rattle.ver_ast.specs.declared.tree.Rhs.TheVariants as rhs
use Rattle.ver_ast.specs.Nets.{assigns}
use Rattle.ver_build.specs.declared.places.Places.{Places}
use Rattle.ver_build.specs.working.Operands.{atom_at}
use Rattle.ver_build.specs.declared.right_sides.Inner.{Inner}
use Rattle.fir_net_names.specs.working.LeafNamed.{name_at}
use Rattle.ver_build.specs.working.Places.{held_of}
use Rattle.ver_build.specs.working.Built.{inners, inner_assign, leaf_assign, role_assign}
use Rattle.ver_build.proofs.Names.{NameList, Each, zipped}
use Rattle.ver_build.proofs.Premises.{Premises, LeafNamed}
use Rattle.ver_build.proofs.OrderedLeaves.{ordered_names, ordered_leaves, ordered_named, ordered_part, ordered_from}
use Rattle.ver_build.proofs.Parts.{in_parts}
use Rattle.ver_build.proofs.ClockAssigns.{assigns_are}

-- the assign of an output
pub record OutputAssign (net : FlatNet) (t : NameTable) (p : Places) (a : Assign) : Type 0 where
  pub index : ℕ
  pub leaf : Leaf
  pub source : Read
  pub at : slice_get net.leaves index ≡ Some leaf
  pub named : name_at t.leaves index ≡ Some a.target
  pub driven : leaf.role ≡ role.Output source
  pub right : rhs.Atom (atom_at leaf.width (held_of p source)) ≡ a.rhs

-- a part of what elements with their names give
pub zipped_from : {A B : Type 0} → (P : A → Option (List ℕ) → Type 0) (f : A → Option (List ℕ) → List B) (names : NameList) (xs : List A) (b : B)
    → Each P names xs → In (zipped f names xs) b
    → (k : ℕ) × (x : A) × (slice_get xs k ≡ Some x) × In (f x (name_at names k)) b
unfolding zipped
zipped_from P f [] [] b h m = absurd m
zipped_from P f [] (x ∷ xs) b h m = absurd m
zipped_from P f (n ∷ names) [] b h m = absurd m
zipped_from P f (n ∷ names) (x ∷ xs) b h m =
    ⊎_elim
    (λ (i : In (f x n) b). (0, x, refl, i))
    (λ (i : In (zipped f names xs) b). let r = zipped_from P f names xs b h.1 i in (suc r.0, r.1, r.2, r.3))
    (in_either (f x n) (zipped f names xs) b m)

module _ (net : FlatNet) (t : NameTable) (p : Places) (order : List Read) (is : Premises net t p order) where
  pub inner_assign_in : (x : Inner) → In (inners net t p order) x → In (assigns (in_parts net t p order)) (inner_assign x)
  inner_assign_in x m =
      subst (λ (xs : List Assign). In xs (inner_assign x)) (sym (assigns_are net t p order is))
      (in_left (map inner_assign (inners net t p order)) (zipped (leaf_assign p) (ordered_names net t) (ordered_leaves net)) (inner_assign x)
      (in_map inner_assign (inners net t p order) x m))

  abbrev output : Leaf → Read → List ℕ → Assign
  output l r n = record { target = n; rhs = rhs.Atom (atom_at l.width (held_of p r)) }

  pub output_assign_in : (k : ℕ) (l : Leaf) (r : Read) (n : List ℕ) → slice_get net.leaves k ≡ Some l → l.role ≡ role.Output r
      → name_at t.leaves k ≡ Some n
      → In (assigns (in_parts net t p order)) (record { target = n; rhs = rhs.Atom (atom_at l.width (held_of p r)) })
  output_assign_in k l r n at driven named =
      let given : In (leaf_assign p l (Some n)) (output l r n) = rw driven (inl refl) in
      subst (λ (xs : List Assign). In xs (output l r n)) (sym (assigns_are net t p order is))
      (in_right (map inner_assign (inners net t p order)) (zipped (leaf_assign p) (ordered_names net t) (ordered_leaves net)) (output l r n)
      (ordered_part net t is.whole is.table (leaf_assign p) k l n at named (output l r n) given))

  by_role : (k : ℕ) (l : Leaf) (d : Role) (n : Option (List ℕ)) (a : Assign) → slice_get net.leaves k ≡ Some l → l.role ≡ d
      → name_at t.leaves k ≡ n → In (role_assign p d l.width n) a → OutputAssign net t p a
  by_role k l (role.Output r) None a at same named m = absurd m
  by_role k l (role.Output r) (Some n) a at same named (inl e) =
      record { index = k; leaf = l; source = r; at = at; named = named ∙ ap (λ (x : Assign). Some x.target) e; driven = same; right = ap (λ (x : Assign). x.rhs) e }
  by_role k l (role.Output r) (Some n) a at same named (inr m) = absurd m
  by_role k l _ n a at same named m = absurd m

  -- an assign is an inner net's or an output's
  pub assign_from : (a : Assign) → In (assigns (in_parts net t p order)) a
      → ((x : Inner) × In (inners net t p order) x × (inner_assign x ≡ a)) ⊎ OutputAssign net t p a
  assign_from a m =
      ⊎_elim
      (λ (i : In (map inner_assign (inners net t p order)) a). inl (in_map_from inner_assign (inners net t p order) a i))
      (λ (o : In (zipped (leaf_assign p) (ordered_names net t) (ordered_leaves net)) a).
      let z = zipped_from LeafNamed (leaf_assign p) (ordered_names net t) (ordered_leaves net) a (ordered_named net t is.whole is.table) o in
      let k = ordered_from net t is.whole is.table z.0 z.1 z.2 in
      inr (by_role k.0 z.1 z.1.role (name_at (ordered_names net t) z.0) a k.1 refl k.2 z.3))
      (in_either (map inner_assign (inners net t p order)) (zipped (leaf_assign p) (ordered_names net t) (ordered_leaves net)) a
      (subst (λ (xs : List Assign). In xs a) (assigns_are net t p order is) m))

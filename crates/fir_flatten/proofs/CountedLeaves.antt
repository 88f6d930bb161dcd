-- A flat net has as many leaves, registers and arrays as its source.
use Rattle.std.proofs.Common.{◌≡◌, ℕ, suc, ◌+◌, List, [], ◌∷◌, length, count_by, cond, slice_get, Bool, true, false, Some, refl, sym, ap, ap₂, ◌∙◌, inl, inr, arith}
use Rattle.std.proofs.lemmas.List.Sums.{length-filter, sum_by-cons}
use Rattle.fir_pass.specs.Meaning.{Counts}
use Rattle.fir_meaning.specs.working.LeafCircuits.{LeafCircuit, role_of}
use Rattle.fir_meaning.specs.LeafPaths.{LeafPath}
use Rattle.fir_meaning.specs.LeafTypes.{LeafType, a_clock, number}
use Rattle.fir_meaning.specs.working.LeafModules.{Role, computed, leaf_at, pipe, reading, register, sink, source}
use Rattle.fir_meaning.specs.SourceCircuits.{PlacedLeaf, all_arrays, all_leaves}
use Rattle.fir_meaning.specs.SourceDesigns.{SourceDesign}
use Rattle.fir_meaning.specs.SourceMeaning.{is_register as is_register_of_source, source_counts}
use Rattle.fir_meaning.specs.SourceRoles as tree
use Rattle.fir_meaning.specs.SourceRoles.{SourceRole}
use Rattle.fir_design.proofs.InStep.{InStep, SameRoleBelow}
use Rattle.fir_net.specs.declared.leaf.Leaf.{Leaf}
use Rattle.fir_net.specs.declared.leaf.Role as net_leaf
use Rattle.fir_net.specs.declared.net.FlatNet.{FlatNet}
use Rattle.fir_net.specs.working.Counted.{is_register as is_register_of_net, register_count}
use Rattle.fir_flatten.specs.working.FlattensTo.{net_counts}
use Rattle.fir_flatten.proofs.LeafRoles.{IsShaped}
use Rattle.fir_flatten.proofs.PlainNets.{IsPlainNet}

-- two lists that go in step have as many elements of a kind
counted_beside : {A B : Type 0} → (p : A → Bool) (q : B → Bool) (xs : List A) (ys : List B) → length xs ≡ length ys
    → ((k : ℕ) (x : A) (y : B) → slice_get xs k ≡ Some x → slice_get ys k ≡ Some y → p x ≡ q y)
    → count_by p xs ≡ count_by q ys
counted_beside p q [] [] long same = refl
counted_beside p q [] (y ∷ ys) long same = absurd (omega (arith, long))
counted_beside p q (x ∷ xs) [] long same = absurd (omega (arith, long))
counted_beside p q (x ∷ xs) (y ∷ ys) long same =
    sum_by-cons (λ v. cond (p v) 1 0) x xs
    ∙ ap₂ (λ (b : Bool) (n : ℕ). cond b 1 0 + n) (same 0 x y refl refl)
    (counted_beside p q xs ys (omega (arith, long)) (λ k v w e f. same (suc k) v w e f))
    ∙ sym (sum_by-cons (λ v. cond (q v) 1 0) y ys)

-- a register of the circuit; a pipe is none
abbrev is_register : Role → Bool
is_register (register clock reset) = true
is_register _ = false

-- a leaf of the net is a register where that of the circuit is one
net_alike : (x : net_leaf.Role) (h : LeafType) (r : Role) → IsShaped x h r → is_register_of_net x ≡ is_register r
net_alike x (number t) source is = ap is_register_of_net is
net_alike x a_clock source is = ap is_register_of_net is
net_alike x (number t) sink (r, inl e) = ap is_register_of_net e
net_alike x (number t) sink (r, inr e) = ap is_register_of_net e
net_alike x a_clock sink (c, inl e) = ap is_register_of_net e
net_alike x a_clock sink (c, inr e) = ap is_register_of_net e
net_alike x (number t) (computed e) is = ap is_register_of_net is.1
net_alike x a_clock (computed e) is = ap is_register_of_net is.1
net_alike x (number t) (register clock reset) is = ap is_register_of_net is.1
net_alike x (number t) (reading r) is = ap is_register_of_net is.1
net_alike x (number t) (pipe r clock under) is = ap is_register_of_net is.1
net_alike x h r is = absurd is

-- and where that of the source is one
source_alike : (c : LeafCircuit) (at : LeafPath) (r : Role) (q : SourceRole) → SameRoleBelow c at r q → is_register_of_source q ≡ is_register r
source_alike c at source tree.source same = refl
source_alike c at sink tree.sink same = refl
source_alike c at (computed t) (tree.computed scope e own) same = refl
source_alike c at (register clock reset) (tree.register scope e own path) same = refl
source_alike c at (reading r) (tree.reading p) same = refl
source_alike c at (pipe r clock under) (tree.pipe p own kept) same = refl
source_alike c at r q same = absurd same

module _ (c : LeafCircuit) (ports : ℕ) (net : FlatNet) (net_is : IsPlainNet c ports net) (t : SourceDesign) (step : InStep c t) where
  register_alike : (k : ℕ) (p : PlacedLeaf) (l : Leaf) → slice_get (all_leaves t) k ≡ Some p → slice_get net.leaves k ≡ Some l
      → is_register_of_source p.leaf.role ≡ is_register_of_net l.role
  register_alike k p l here at =
      source_alike c p.at (role_of c k) p.leaf.role (step.each k p here).role
      ∙ sym (net_alike l.role (leaf_at c.leaves k).holds (role_of c k) (net_is.each k l at).shaped)

  abbrev counts : ℕ → ℕ → ℕ → Counts
  counts ls rs ms = record { leaves = ls; registers = rs; memories = ms }

  pub counted_same : source_counts t ≡ net_counts net
  counted_same =
      let flat = net_is.flat in
      let long : length (all_leaves t) ≡ length net.leaves = sym (flat.count ∙ step.many) in
      let registers =
      length-filter (λ p. is_register_of_source p.leaf.role) (all_leaves t)
      ∙ counted_beside (λ p. is_register_of_source p.leaf.role) (λ l. is_register_of_net l.role) (all_leaves t) net.leaves long register_alike in
      ap₂ (λ (ls rs : ℕ). counts ls rs (length (all_arrays t))) long registers
      ∙ ap (counts (length net.leaves) (register_count net)) (sym (flat.array_count ∙ step.many_arrays))

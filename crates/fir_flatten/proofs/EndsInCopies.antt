-- Where the drivers of a clock leaf of a copy of a module end in a net at a clock input, they come from its root in the module.
use Rattle.std.proofs.Common.{◌≡◌, ◌⊎◌, ℕ, ◌<◌, List, [], ◌∷◌, length, slice_get, Some, refl, sym, ap, ◌∙◌, subst, inl, inr}
use Rattle.std.proofs.lemmas.Option.{same_Some}
use Rattle.fir_meaning.specs.ModuleScenes.{Scene}
use Rattle.fir_meaning.specs.working.LeafBlocks.{LeafBlock}
use Rattle.fir_meaning.specs.working.LeafCircuits.{LeafCircuit}
use Rattle.fir_meaning.specs.working.LeafModules.{LeafModule, Role, role_at}
use Rattle.fir_meaning.specs.working.LeafModules as leafed
use Rattle.fir_meaning.specs.working.LeafedModules.{leafed_module}
use Rattle.fir_meaning.specs.working.Numberings.{Numbering, number}
use Rattle.fir_meaning.specs.working.TermValues.{Holds}
use Rattle.fir_leaf.specs.working.ClockRoots.{IsClockLeaf, IsEnd}
use Rattle.fir_leaf.specs.working.MemoryClockFaults.{HasClock}
use Rattle.fir_leaf.specs.working.ModuleCircuits.{module_circuit}
use Rattle.fir_leaf_types.specs.working.TypedModules.{IsModuleTyped}
use Rattle.fir_connect.specs.working.CircuitModules.{as_module}
use Rattle.fir_connect.specs.working.MovedTerms.{moved_net_role, renumbered}
use Rattle.fir_connect.specs.working.NetRoles.{NetRole, computed, driven, net_role, net_role_at, net_types, pipe, reading, register, source}
use Rattle.fir_connect.specs.working.NetTerms.{NetTerm, leaf, mux, operation, value}
use Rattle.fir_copies.specs.working.Copies.{Copy}
use Rattle.fir_copies.specs.working.CopyLaws.{StandsIn, numbers_of}
use Rattle.fir_copies.proofs.GivenLeaves.{source_or_not}
use Rattle.fir_net.specs.declared.leaf.Leaf.{Leaf}
use Rattle.fir_net.specs.declared.leaf.Role.TheVariants as role
use Rattle.fir_net.specs.declared.net.FlatNet.{FlatNet}
use Rattle.fir_net.specs.working.IsWritable.{EndsAt, driven as on, input}
use Rattle.fir_net.specs.working.Settled.{clock_driver}
use Rattle.fir_flatten.proofs.ClockedCircuits.{IsClockedAs}
use Rattle.fir_flatten.proofs.DrivenClocks.{IsGivenClock, computed_clock, driven_clock}

-- the drivers of a leaf end at one clock input
pub one_end : (net : FlatNet) (x i j : ℕ) → EndsAt net x i → EndsAt net x j → i ≡ j
one_end net x i j (input k l at is) (input k' l' at' is') = refl
one_end net x i j (input k l at is) (on k' y n l' at' is' rest) =
    let same : l ≡ l' = same_Some l l' (sym at ∙ at') in
    let none = ap clock_driver (sym (ap (λ (z : Leaf). z.role) same) ∙ is) in
    absurd cc
one_end net x i j (on k y n l at is rest) (input k' l' at' is') =
    let same : l' ≡ l = same_Some l' l (sym at' ∙ at) in
    let none = ap clock_driver (sym (ap (λ (z : Leaf). z.role) same) ∙ is') in
    absurd cc
one_end net x i j (on k y n l at is rest) (on k' y' n' l' at' is' rest') =
    let same : l ≡ l' = same_Some l l' (sym at ∙ at') in
    let other = ap (λ (z : Leaf). clock_driver z.role) same in
    let next : y ≡ y' = cc in
    one_end net y i j rest (subst (λ z. EndsAt net z j) (sym next) rest')

-- a moved term that is a leaf
record IsMovedLeaf (f : ℕ → ℕ) (t : NetTerm) (j : ℕ) : Type 0 where
  own : ℕ
  is : t ≡ leaf own
  at : f own ≡ j

moved_leaf : (f : ℕ → ℕ) (t : NetTerm) (j : ℕ) → renumbered f t ≡ leaf j → IsMovedLeaf f t j
moved_leaf f (value v) j e = absurd cc
moved_leaf f (leaf x) j e = record { own = x; is = refl; at = cc }
moved_leaf f (operation op ts ks t) j e = absurd cc
moved_leaf f (mux c a b t) j e = absurd cc

-- so of roles
record IsMovedDriven (f : ℕ → ℕ) (r : NetRole) (j : ℕ) : Type 0 where
  own : ℕ
  is : r ≡ driven (leaf own)
  at : f own ≡ j

record IsMovedComputed (f : ℕ → ℕ) (r : NetRole) (j : ℕ) : Type 0 where
  own : ℕ
  is : r ≡ computed (leaf own)
  at : f own ≡ j

moved_driven : (n : Numbering) (array : ℕ) (r : NetRole) (j : ℕ) → moved_net_role n array r ≡ driven (leaf j) → IsMovedDriven (number n) r j
moved_driven n array source j e = absurd cc
moved_driven n array (driven t) j e =
    let h = moved_leaf (number n) t j cc in
    record { own = h.own; is = ap driven h.is; at = h.at }
moved_driven n array (computed t) j e = absurd cc
moved_driven n array (register k r t) j e = absurd cc
moved_driven n array (reading r) j e = absurd cc
moved_driven n array (pipe r k u) j e = absurd cc

moved_computed : (n : Numbering) (array : ℕ) (r : NetRole) (j : ℕ) → moved_net_role n array r ≡ computed (leaf j) → IsMovedComputed (number n) r j
moved_computed n array source j e = absurd cc
moved_computed n array (driven t) j e = absurd cc
moved_computed n array (computed t) j e =
    let h = moved_leaf (number n) t j cc in
    record { own = h.own; is = ap computed h.is; at = h.at }
moved_computed n array (register k r t) j e = absurd cc
moved_computed n array (reading r) j e = absurd cc
moved_computed n array (pipe r k u) j e = absurd cc

-- what is no source is none where it is moved
moved_source : (n : Numbering) (array : ℕ) (holds : Holds) (depth : ℕ) (b : LeafBlock) (x : ℕ) (r : Role) → (r ≡ leafed.source → ⊥)
    → moved_net_role n array (net_role holds depth b x r) ≡ source → ⊥
moved_source n array holds depth b x leafed.source other e = other refl
moved_source n array holds depth b x leafed.sink other e = cc
moved_source n array holds depth b x (leafed.computed t) other e = cc
moved_source n array holds depth b x (leafed.register k r) other e = cc
moved_source n array holds depth b x (leafed.reading r) other e = cc
moved_source n array holds depth b x (leafed.pipe r k u) other e = cc

module _ (c : LeafCircuit) (ports : ℕ) (net : FlatNet) (clocked : IsClockedAs c ports net) (scenes : List Scene) (k : Copy) (s : StandsIn scenes c k)
    (typed : IsModuleTyped (leafed_module s.scene)) where
  abbrev m : LeafModule
  m = leafed_module s.scene

  abbrev n : Numbering
  n = numbers_of (leafed_module s.scene) k

  -- the root of a leaf in the module, whose drivers end in the net where those of the leaf do
  pub record IsRooted (y i : ℕ) : Type 0 where
    pub root : ℕ
    pub has : HasClock m y root
    pub ends : EndsAt net (number n root) i

  -- one step in the module
  record IsNext (y j : ℕ) : Type 0 where
    next : ℕ
    given : IsGivenClock m y next
    at : number n next ≡ j

  own_role : (y : ℕ) → y < length m.leaves → (role_at m y ≡ leafed.source → ⊥) → (z : ℕ) → number n y ≡ z
      → net_role_at (as_module c) z ≡ moved_net_role n k.array (net_role_at m y)
  own_role y lt other z is = ap (net_role_at (as_module c)) (sym is) ∙ s.roles y lt other

  next_of : (y : ℕ) → IsClockLeaf (module_circuit m) y → (j z : ℕ) → net_role_at (as_module c) z ≡ moved_net_role n k.array (net_role_at m y)
      → (net_role_at (as_module c) z ≡ driven (leaf j)) ⊎ (net_role_at (as_module c) z ≡ computed (leaf j)) → IsNext y j
  next_of y own j z role (inl e) =
      let h = moved_driven n k.array (net_role_at m y) j (sym role ∙ e) in
      record { next = h.own; given = driven_clock m typed y own.is_clock h.own h.is; at = h.at }
  next_of y own j z role (inr e) =
      let h = moved_computed n k.array (net_role_at m y) j (sym role ∙ e) in
      record { next = h.own; given = computed_clock m typed y own.is_clock h.own h.is; at = h.at }

  at_source : (z i : ℕ) → EndsAt net z i → (y : ℕ) → number n y ≡ z → role_at m y ≡ leafed.source → IsRooted y i
  at_source z i e y is role = record {
    root = y;
    has = record { walk = []; final = y; chain = refl; ends = subst (λ r. IsEnd (module_circuit m) y r (Some y)) (sym role) refl };
    ends = subst (λ w. EndsAt net w i) (sym is) e;
  }

  -- behind a step
  behind : (y i next : ℕ) → IsGivenClock m y next → IsRooted next i → IsRooted y i
  behind y i next given rest = record {
    root = rest.root;
    has = record {
      walk = next ∷ rest.has.walk;
      final = rest.has.final;
      chain = (given.gives, given.is_clock, rest.has.chain);
      ends = rest.has.ends;
    };
    ends = rest.ends;
  }

  -- of a clock input
  input_rooted : (z i : ℕ) → EndsAt net z i → (l : Leaf) → slice_get net.leaves z ≡ Some l → l.role ≡ role.Clock → (y : ℕ) → IsClockLeaf (module_circuit m) y
      → number n y ≡ z → (role_at m y ≡ leafed.source) ⊎ (role_at m y ≡ leafed.source → ⊥) → IsRooted y i
  input_rooted z i e l at is_clock y own is (inl role) = at_source z i e y is role
  input_rooted z i e l at is_clock y own is (inr other) =
      absurd (moved_source n k.array (net_types m) (leafed.depth_at m y) m.body y (role_at m y) other
      (sym (own_role y own.within other z is) ∙ clocked.input z l at is_clock))

  -- of what another leaf drives
  driven_rooted : (z i : ℕ) → EndsAt net z i → (j : ℕ) (l : Leaf) → slice_get net.leaves z ≡ Some l → clock_driver l.role ≡ Some (Some j)
      → ((next : ℕ) → IsClockLeaf (module_circuit m) next → number n next ≡ j → IsRooted next i) → (y : ℕ) → IsClockLeaf (module_circuit m) y
      → number n y ≡ z → (role_at m y ≡ leafed.source) ⊎ (role_at m y ≡ leafed.source → ⊥) → IsRooted y i
  driven_rooted z i e j l at by_driver rest y own is (inl role) = at_source z i e y is role
  driven_rooted z i e j l at by_driver rest y own is (inr other) =
      let step = next_of y own j z (own_role y own.within other z is) (clocked.driven z j l at by_driver) in
      behind y i step.next step.given (rest step.next step.given.is_clock step.at)

  pub rooted : (z i : ℕ) → EndsAt net z i → (y : ℕ) → IsClockLeaf (module_circuit m) y → number n y ≡ z → IsRooted y i
  rooted z i (input w l at is_clock) y own is =
      input_rooted z i (input w l at is_clock) l at is_clock y own is (source_or_not (role_at m y))
  rooted z i (on w j b l at by_driver rest) y own is =
      driven_rooted z i (on w j b l at by_driver rest) j l at by_driver (λ next clock there. rooted j i rest next clock there) y own is
      (source_or_not (role_at m y))

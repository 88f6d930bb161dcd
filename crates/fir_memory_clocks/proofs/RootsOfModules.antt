-- The roots by the roles of a clear module's net are the clocks of its clock leaves.
use Rattle.std.proofs.Common.{◌≡◌, ◌↔◌, ℕ, zero, suc, ◌<◌, List, [], ◌∷◌, ◌++◌, Bool, length, slice_get, Option, Some, None, refl, sym, ap, ◌∙◌, subst, arith}
use Rattle.std.specs.List.{AllByRecursion}
use Rattle.std.proofs.lemmas.Option.{same_Some}
use Rattle.std.specs.Prelude.{slice_index_or}
use Rattle.fir_base.proofs.Each.{all_joined}
use Rattle.fir_base.proofs.Elements.{there}
use Rattle.fir_bits.specs.Forms.{no_type}
use Rattle.fir_meaning.specs.LeafTypes.{a_clock}
use Rattle.fir_meaning.specs.working.LeafModules.{LeafModule, Role, computed, depth_at, pipe, reading, register, role_at, sink, source}
use Rattle.fir_meaning.specs.working.Terms.{no_picks, read}
use Rattle.fir_leaf.specs.working.ClockRoots.{GivesClock, IsChain, IsClockLeaf, IsEnd}
use Rattle.fir_leaf.specs.working.MemoryClockFaults.{HasClock}
use Rattle.fir_leaf.specs.working.ModuleCircuits.{module_circuit}
use Rattle.fir_leaf_types.specs.working.TypedModules.{IsRoleTyped, held_in}
use Rattle.fir_net.specs.declared.node.Node.{Node}
use Rattle.fir_net.specs.declared.node.Node.TheVariants as node
use Rattle.fir_net.specs.declared.reads.Read.{Read}
use Rattle.fir_net.specs.declared.reads.Read.TheVariants as reads
use Rattle.fir_connect.specs.working.Lowered.{zero_of}
use Rattle.fir_connect.specs.working.NetRoles.{net_role, net_types}
use Rattle.fir_connect.specs.working.NetTerms.{NetTerm, leaf}
use Rattle.fir_merge.specs.working.NodeTerms.{chosen_term, node_term, read_term, terms, terms_from}
use Rattle.fir_whens.specs.declared.module_net.ModuleNet.{ModuleNet}
use Rattle.fir_whens.specs.declared.net_role.NetRole.{NetRole}
use Rattle.fir_whens.specs.declared.net_role.NetRole.TheVariants as code
use Rattle.fir_whens.specs.working.ModuleNets.{IsNetOf}
use Rattle.fir_whens.specs.working.StandingRoles.{RoleStands}
use Rattle.fir_memory_clocks.specs.working.ModuleMemories.{IsClearModule}
use Rattle.fir_memory_clocks.specs.working.PortClocks.{HasRootIn}
use Rattle.fir_memory_clocks.specs.working.RoleRoots.{AreRoots, HasRoot, given, given_leaf, leaf_given, leaf_read, outside}
use Rattle.fir_memory_clocks.proofs.ClockTerms.{HasOne, clock_term, has_one, none_by}
use Rattle.fir_memory_clocks.proofs.RoleWalks.{root_within}

-- ---- no node stands for a leaf

abbrev IsNoLeaf : NetTerm → Type 0
IsNoLeaf (leaf x) = ⊥
IsNoLeaf _ = Unit {0}

chosen_no_leaf : (known : List NetTerm) (rs : List Read) (signed : Bool) (width : ℕ) → IsNoLeaf (chosen_term known rs signed width)
chosen_no_leaf known [] signed width = tt
chosen_no_leaf known (a ∷ []) signed width = tt
chosen_no_leaf known (a ∷ b ∷ []) signed width = tt
chosen_no_leaf known (a ∷ b ∷ c ∷ []) signed width = tt
chosen_no_leaf known (a ∷ b ∷ c ∷ d ∷ rs) signed width = tt

node_no_leaf : (known : List NetTerm) (n : Node) → IsNoLeaf (node_term known n)
node_no_leaf known (node.Literal v) = tt
node_no_leaf known (node.Operation o) = tt
node_no_leaf known (node.Mux m) = chosen_no_leaf known m.reads m.signed m.width

from_no_leaf : (known : List NetTerm) (ns : List Node) → AllByRecursion IsNoLeaf known → AllByRecursion IsNoLeaf (terms_from known ns)
unfolding terms_from
from_no_leaf known [] h = h
from_no_leaf known (n ∷ ns) h =
    from_no_leaf (known ++ node_term known n ∷ []) ns
    (all_joined IsNoLeaf known (node_term known n ∷ []) h (node_no_leaf known n, tt))

at_no_leaf : (ts : List NetTerm) (k : ℕ) → AllByRecursion IsNoLeaf ts → IsNoLeaf (slice_index_or ts k (zero_of no_type))
at_no_leaf [] k h = tt
at_no_leaf (t ∷ ts) zero h = h.0
at_no_leaf (t ∷ ts) (suc k) h = at_no_leaf ts k h.1

-- a read stands for a leaf where it reads that leaf
stands_read : (nodes : List Node) (r : Read) (y : ℕ) → read_term (terms nodes) r ≡ leaf y → leaf_read r ≡ Some y
stands_read nodes (reads.Leaf x) y e = let same : x ≡ y = cc in ap Some same
stands_read nodes (reads.Node k) y e =
    absurd (subst IsNoLeaf e (at_no_leaf (terms nodes) k (from_no_leaf [] nodes tt)))

read_stands : (nodes : List Node) (r : Read) (y : ℕ) → leaf_read r ≡ Some y → read_term (terms nodes) r ≡ leaf y
read_stands nodes (reads.Leaf x) y e = ap leaf (same_Some x y e)
read_stands nodes (reads.Node k) y e = absurd (cc)

-- a chain that ends at a root ends at a source
pub end_of : (m : LeafModule) (z root : ℕ) (role : Role) → IsEnd (module_circuit m) z role (Some root) → (role ≡ source) × (root ≡ z)
end_of m z root source e = (refl, same_Some root z e)
end_of m z root sink e = let never = e.1 in absurd (cc)
end_of m z root (computed t) e = let never = e.1 in absurd (cc)
end_of m z root (register c r) e = let never = e.1 in absurd (cc)
end_of m z root (reading r) e = let never = e.1 in absurd (cc)
end_of m z root (pipe r c u) e = let never = e.1 in absurd (cc)

module _ (m : LeafModule) (k : IsClearModule m) (net : ModuleNet) (is : IsNetOf m net) where
  -- what a role gives a clock leaf, in the net and in the module
  record StepsAlike (x : ℕ) (role : Role) (r : NetRole) : Type 0 where
    forth : (y : ℕ) → given_leaf r ≡ Some y → GivesClock (module_circuit m) x role (read y no_picks) × (held_in m y ≡ a_clock)
    back : (y : ℕ) → GivesClock (module_circuit m) x role (read y no_picks) → given_leaf r ≡ Some y
    comes_in : r ≡ code.Source → role ≡ source
    is_outside : role ≡ source → r ≡ code.Source

  none_given : (x : ℕ) (role : Role) (r : NetRole) → given_leaf r ≡ None → ((y : ℕ) → GivesClock (module_circuit m) x role (read y no_picks) → ⊥)
      → (r ≡ code.Source → role ≡ source) → (role ≡ source → r ≡ code.Source) → StepsAlike x role r
  none_given x role r none gives comes goes = record {
    forth = λ y e. let never : None ≡ Some y = sym none ∙ e in absurd (cc);
    back = λ y g. absurd (gives y g);
    comes_in = comes;
    is_outside = goes;
  }

  alike : (x : ℕ) → x < length m.leaves → held_in m x ≡ a_clock → (role : Role) → role_at m x ≡ role
      → IsRoleTyped (held_in m) a_clock role → (r : NetRole)
      → RoleStands (net_types m) net.nodes r (net_role (net_types m) (depth_at m x) m.body x role) → StepsAlike x role r
  alike x lt clock source role typed code.Source stands = none_given x source code.Source refl (λ y g. g) (λ e. refl) (λ e. refl)
  alike x lt clock sink role typed (code.Driven b) stands =
      let one : HasOne m k x = has_one m k x lt clock role in
      record {
        forth = λ y e.
            let t = one.term.forth y (sym stands.term ∙ read_stands net.nodes b.read y e) in
            (record { live = one.live; only = one.only; gives = t.0 }, t.1);
        back = λ y g.
            let lives : one.live ∷ [] ≡ g.live ∷ [] = sym one.only ∙ g.only in
            let same : one.live ≡ g.live = cc in
            stands_read net.nodes b.read y (stands.term ∙ one.term.back y (ap (λ l. l.given) same ∙ g.gives));
        comes_in = λ e. absurd (cc);
        is_outside = λ e. absurd (cc);
      }
  alike x lt clock (computed u) role typed (code.Computed b) stands =
      let t = clock_term (held_in m) (net_types m) u typed (none_by m k x lt a_clock (computed u) clock role) in
      record {
        forth = λ y e. t.forth y (sym stands.term ∙ read_stands net.nodes b.read y e);
        back = λ y g. stands_read net.nodes b.read y (stands.term ∙ t.back y g);
        comes_in = λ e. absurd (cc);
        is_outside = λ e. absurd (cc);
      }
  alike x lt clock (register c r) role typed (code.Register b reset next) stands =
      none_given x (register c r) (code.Register b reset next) refl (λ y g. g) (λ e. absurd (cc)) (λ e. absurd (cc))
  alike x lt clock (reading r) role typed (code.Reading e) stands =
      none_given x (reading r) (code.Reading e) refl (λ y g. g) (λ f. absurd (cc)) (λ f. absurd (cc))
  alike x lt clock (pipe r c u) role typed (code.Pipe e d v) stands =
      none_given x (pipe r c u) (code.Pipe e d v) refl (λ y g. g) (λ f. absurd (cc)) (λ f. absurd (cc))
  alike x lt clock role is_role typed r stands = absurd stands

  -- the role of a clock leaf
  record RoleOf (x : ℕ) : Type 0 where
    role : NetRole
    is_role : slice_get net.roles.items x ≡ Some role
    steps : StepsAlike x (role_at m x) role

  role_of_clock : (x : ℕ) → IsClockLeaf (module_circuit m) x → RoleOf x
  role_of_clock x l =
      let r = there net.roles.items x (let lt = l.within in omega (arith, lt, is.count)) in
      record {
        role = r.0;
        is_role = r.1;
        steps =
            alike x l.within l.is_clock (role_at m x) refl (subst (λ t. IsRoleTyped (held_in m) t (role_at m x)) l.is_clock (k.typed.roles x l.within)) r.0
            (is.each x r.0 r.1);
      }

  root_forth : (x root : ℕ) → HasRoot net.roles.items x root → IsClockLeaf (module_circuit m) x → HasClock m x root
  root_forth _ _ (outside x e) l =
      let r = role_of_clock x l in
      let role : role_at m x ≡ source = r.steps.comes_in (same_Some r.role code.Source (sym r.is_role ∙ e)) in
      record {
        walk = [];
        final = x;
        chain = refl;
        ends = subst (λ z. IsEnd (module_circuit m) x z (Some x)) (sym role) refl;
      }
  root_forth _ _ (given x y root e h) l =
      let r = role_of_clock x l in
      let step = r.steps.forth y (sym (ap leaf_given r.is_role) ∙ e) in
      let lt = root_within net.roles.items y root h in
      let next : IsClockLeaf (module_circuit m) y = record { within = omega (arith, lt, is.count); is_clock = step.1 } in
      let rest = root_forth y root h next in
      record { walk = y ∷ rest.walk; final = rest.final; chain = (step.0, next, rest.chain); ends = rest.ends }

  chain_back : (walk : List ℕ) (x final root : ℕ) → IsClockLeaf (module_circuit m) x → IsChain (module_circuit m) x walk final
      → IsEnd (module_circuit m) final (role_at m final) (Some root) → HasRoot net.roles.items x root
  chain_back [] x final root l chain ends =
      let own : IsEnd (module_circuit m) x (role_at m x) (Some root) =
      subst (λ z. IsEnd (module_circuit m) z (role_at m z) (Some root)) (sym chain) ends in
      let e = end_of m x root (role_at m x) own in
      let r = role_of_clock x l in
      subst (HasRoot net.roles.items x) (sym e.1) (outside x (r.is_role ∙ ap Some (r.steps.is_outside e.0)))
  chain_back (y ∷ ys) x final root l chain ends =
      let r = role_of_clock x l in
      given x y root (ap leaf_given r.is_role ∙ r.steps.back y chain.0) (chain_back ys y final root chain.1 chain.2 ends)

  -- by a list of the roots
  pub clocks_alike : (roots : List (Option ℕ)) → AreRoots net.roles.items roots → (x root : ℕ) → IsClockLeaf (module_circuit m) x
      → HasRootIn roots x root ↔ HasClock m x root
  clocks_alike roots are x root l = (
    (λ e. root_forth x root ((are.each x root).0 e) l),
    (λ h. (are.each x root).1 (chain_back h.walk x h.final root l h.chain h.ends)),
  )

-- the clock of a clock leaf is a clock leaf
pub root_is_leaf : (m : LeafModule) (x root : ℕ) → IsClockLeaf (module_circuit m) x → HasClock m x root → IsClockLeaf (module_circuit m) root
root_is_leaf m x root l h = by h.walk x l h.chain
  where
    last_is : root ≡ h.final
    last_is = (end_of m h.final root (role_at m h.final) h.ends).1

    by : (walk : List ℕ) (y : ℕ) → IsClockLeaf (module_circuit m) y → IsChain (module_circuit m) y walk h.final → IsClockLeaf (module_circuit m) root
    by [] y k chain = subst (IsClockLeaf (module_circuit m)) (chain ∙ sym last_is) k
    by (z ∷ zs) y k chain = by zs z chain.1 chain.2

-- What the read of a clock tells of its term: a node is no leaf.
use Rattle.std.proofs.Common.{◌≡◌, ℕ, ◌<◌, List, [], ◌∷◌, length, get_or, Bool, Option, refl, sym, ap, ◌∙◌, subst}
use Rattle.std.proofs.lemmas.Option.{slice_get_read}
use Rattle.fir_base.proofs.Elements.{there}
use Rattle.fir_bits.specs.declared.types.NumTy.{NumTy}
use Rattle.fir_meaning.specs.LeafTypes.{number}
use Rattle.fir_meaning.specs.working.TermValues.{Holds}
use Rattle.fir_net.specs.declared.node.Node.{Node}
use Rattle.fir_net.specs.declared.node.Node.TheVariants as node
use Rattle.fir_net.specs.declared.reads.Read.{Read}
use Rattle.fir_net.specs.declared.reads.Read.TheVariants as read
use Rattle.fir_connect.specs.working.NetRoles as meant
use Rattle.fir_connect.specs.working.NetRoles.{NetRole as RoleMeant}
use Rattle.fir_connect.specs.working.NetTerms.{NetTerm}
use Rattle.fir_merge.specs.declared.bound.Bound.{Bound}
use Rattle.fir_merge.specs.working.NodeTerms.{IsBelow, ReadBefore, chosen_term, node_term, read_term, terms}
use Rattle.fir_merge.proofs.GrownTerms.{node_there}
use Rattle.fir_whens.specs.declared.net_role.NetReset.{NetReset}
use Rattle.fir_whens.specs.declared.net_role.NetRole.TheVariants as code
use Rattle.fir_whens.specs.working.StandingRoles.{RoleStands}
use Rattle.fir_flatten.specs.working.ClearClocks.{IsNoLeaf, IsUnclearAs}

chosen_no_leaf : (known : List NetTerm) (rs : List Read) (signed : Bool) (width : ℕ) → IsNoLeaf (chosen_term known rs signed width)
chosen_no_leaf known [] signed width = tt
chosen_no_leaf known (c ∷ []) signed width = tt
chosen_no_leaf known (c ∷ a ∷ []) signed width = tt
chosen_no_leaf known (c ∷ a ∷ b ∷ []) signed width = tt
chosen_no_leaf known (c ∷ a ∷ b ∷ d ∷ rs) signed width = tt

node_no_leaf : (known : List NetTerm) (n : Node) → IsNoLeaf (node_term known n)
node_no_leaf known (node.Literal v) = tt
node_no_leaf known (node.Operation o) = tt
node_no_leaf known (node.Mux m) = chosen_no_leaf known m.reads m.signed m.width

module _ (nodes : List Node) (before : ReadBefore 0 nodes) where
  pub term_there : (k : ℕ) (n : Node) → k < length nodes → n ≡ get_or nodes k n → read_term (terms nodes) (read.Node k) ≡ node_term (terms nodes) n
  term_there k n within is = node_there nodes k n before (slice_get_read nodes (length nodes) k n refl within is)

  no_leaf_there : (k : ℕ) → k < length nodes → IsNoLeaf (read_term (terms nodes) (read.Node k))
  no_leaf_there k within =
      let n = there nodes k within in
      subst IsNoLeaf (sym (node_there nodes k n.0 before n.1)) (node_no_leaf (terms nodes) n.0)

  pub register_unclear : (types : Holds) (clock next : Bound) (reset : Option NetReset) (k : ℕ) (u : NumTy) (r : RoleMeant) → clock.read ≡ read.Node k
      → RoleStands types nodes (code.Register clock reset next) r → IsUnclearAs (number u) r
  register_unclear types clock next reset k u meant.source e h = absurd h
  register_unclear types clock next reset k u (meant.driven t) e h = absurd h
  register_unclear types clock next reset k u (meant.computed t) e h = absurd h
  register_unclear types clock next reset k u (meant.reading t) e h = absurd h
  register_unclear types clock next reset k u (meant.pipe t c under) e h = absurd h
  register_unclear types clock next reset k u (meant.register c s t) e h =
      let below : k < length nodes = subst (IsBelow (length nodes)) e h.0.below in
      let is : read_term (terms nodes) (read.Node k) ≡ c = ap (read_term (terms nodes)) (sym e) ∙ h.0.term in
      subst IsNoLeaf is (no_leaf_there k below)

-- The numbers of the leaves that have names: the leaf of each, and that none stands twice.
use Rattle.std.proofs.Common.{◌≡◌, ℕ, ◌∷◌, [], List, Bool, true, false, nat_eq, if◌then◌else◌, refl, sym, ap, ◌∙◌, inl, inr, ◌⊎◌, ⊎_elim}
use Rattle.std.specs.Prelude.{slice_get, Some, not, ◌&&◌}
use Rattle.fir_base.specs.Lists.{In, Distinct}
use Rattle.fir_base.proofs.Elements.{number_of}
use Rattle.fir_base.proofs.Members.{in_either}
use Rattle.fir_base.proofs.Twins.{distinct_joined}
use Rattle.fir_net.specs.declared.leaf.Role.{Role}
use Rattle.fir_net.specs.declared.leaf.Role.TheVariants as role
use Rattle.fir_net.specs.declared.leaf.Leaf.{Leaf}
use Rattle.fir_net.specs.declared.net.FlatNet.{FlatNet}
use Rattle.fir_net.specs.working.IsNet.{is_port, is_state, IsNet}
use Rattle.fir_net.proofs.NumberedLeaves.{GivesOwn, leaf_at, distinct_numbers}
use Rattle.fir_net.proofs.StateWords.{state_at}
use Rattle.fir_net_names.specs.working.LeafNamed.{port_number, named_ports, named_leaves}

-- a port that has bits gives its number, and no other leaf
port_gives : (p z : Bool) (k : ℕ) → (p && not z) ≡ true → (if p then (if z then [] else (k ∷ [])) else []) ≡ k ∷ []
port_gives true true k e = cc
port_gives true false k e = refl
port_gives false z k e = cc

port_lacks : (p z : Bool) (k : ℕ) → (p && not z) ≡ false → (if p then (if z then [] else (k ∷ [])) else []) ≡ []
port_lacks true true k e = refl
port_lacks true false k e = cc
port_lacks false z k e = refl

pub number_given : (r : Role) (w k : ℕ) → (is_port r && not (nat_eq w 0)) ≡ true → port_number r w k ≡ k ∷ []
number_given r w k e = port_gives (is_port r) (nat_eq w 0) k e

pub number_lacking : (r : Role) (w k : ℕ) → (is_port r && not (nat_eq w 0)) ≡ false → port_number r w k ≡ []
number_lacking r w k e = port_lacks (is_port r) (nat_eq w 0) k e

pub ports_own : GivesOwn port_number
ports_own = record { each = λ r w k. own (is_port r) (nat_eq w 0) k }
  where
    own : (p z : Bool) (k : ℕ) → ((if p then (if z then [] else (k ∷ [])) else []) ≡ []) ⊎ ((if p then (if z then [] else (k ∷ [])) else []) ≡ k ∷ [])
    own true true k = inl refl
    own true false k = inr refl
    own false z k = inl refl

gives_port : (p z : Bool) (k : ℕ) → (if p then (if z then [] else (k ∷ [])) else []) ≡ k ∷ [] → (p ≡ true) × (z ≡ false)
gives_port true true k e = cc
gives_port true false k e = (refl, refl)
gives_port false z k e = cc

-- a port that has bits
pub record PortAt (leaves : List Leaf) (k : ℕ) : Type 0 where
  pub leaf : Leaf
  pub at : slice_get leaves k ≡ Some leaf
  pub port : is_port leaf.role ≡ true
  pub bits : nat_eq leaf.width 0 ≡ false

pub port_at : (leaves : List Leaf) (k : ℕ) → In (named_ports 0 leaves) k → PortAt leaves k
port_at leaves k m =
    let place = number_of (named_ports 0 leaves) k m in
    let found = leaf_at port_number ports_own leaves place.0 k place.1 in
    let is = gives_port (is_port found.0.role) (nat_eq found.0.width 0) k found.2 in
    record { leaf = found.0; at = found.1; port = is.0; bits = is.1 }

-- what is state is no port
no_port : (r : Role) → is_state r ≡ true → is_port r ≡ false
no_port role.Input e = cc
no_port role.Clock e = cc
no_port (role.Output r) e = cc
no_port (role.Wire r) e = cc
no_port (role.Register d) e = refl
no_port (role.Reading r) e = cc
no_port (role.Pipe p) e = refl
no_port (role.ClockOutput c) e = cc
no_port (role.ClockWire c) e = cc

pub ports_distinct : (leaves : List Leaf) → Distinct (named_ports 0 leaves)
ports_distinct leaves = distinct_numbers port_number ports_own leaves 0

module _ (net : FlatNet) (whole : IsNet net) where
  -- each is the number of a leaf
  pub named_leaf : (k : ℕ) → In (named_leaves net) k → (l : Leaf) × (slice_get net.leaves k ≡ Some l)
  named_leaf k m =
      ⊎_elim
      (λ (p : In (named_ports 0 net.leaves) k). let found = port_at net.leaves k p in (found.leaf, found.at))
      (λ (s : In net.state k). let place = number_of net.state k s in let found = state_at whole.state place.0 k place.1 in (found.leaf, found.at))
      (in_either (named_ports 0 net.leaves) net.state k m)

  -- no port is a word of the state
  port_is_no_word : (k : ℕ) → In (named_ports 0 net.leaves) k → In net.state k → ⊥
  port_is_no_word k p s =
      let port = port_at net.leaves k p in
      let place = number_of net.state k s in
      let word = state_at whole.state place.0 k place.1 in
      let same : Some port.leaf ≡ Some word.leaf = sym port.at ∙ word.at in
      let one : port.leaf ≡ word.leaf = cc in
      let no : is_port word.leaf.role ≡ false = no_port word.leaf.role word.is in
      let yes : is_port word.leaf.role ≡ true = ap (λ (l : Leaf). is_port l.role) (sym one) ∙ port.port in
      cc

  pub named_once : Distinct (named_leaves net)
  named_once = distinct_joined (named_ports 0 net.leaves) net.state (ports_distinct net.leaves) whole.state.once port_is_no_word

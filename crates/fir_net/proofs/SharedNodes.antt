-- What it does to put a node into a set of nodes in order.
use Rattle.std.proofs.Common.{◌≡◌, ℕ, zero, suc, List, [], ◌∷◌, ◌++◌, Bool, true, false, if◌then◌else◌, refl, sym, ap, ◌∙◌, inl, inr, ◌⊎◌}
use Rattle.std.specs.Prelude.{slice_get, Some}
use Rattle.std.specs.List.{list_any}
use Rattle.std.proofs.lemmas.Bool.{or_left, or_right}
use Rattle.indexmap.specs.IndexSet.{insert_key}
use Rattle.fir_net.specs.declared.node.Node.{Node}
use Rattle.fir_net.specs.contracts.node.NodePartialEq.TheImpl as node_eq
use Rattle.fir_net.specs.working.Shares.{Shares}
use Rattle.fir_net.proofs.SameNodes.{equal_node, node_itself}

abbrev equal : Node → Node → Bool
equal = (node_eq.ghosts).eq

any_at : (test : Node → Bool) (ns : List Node) (j : ℕ) (n : Node) → slice_get ns j ≡ Some n → test n ≡ true → list_any test ns ≡ true
any_at test [] j n e h = cc
any_at test (m ∷ ns) zero n e h = let same : m ≡ n = cc in or_left (test m) (list_any test ns) (ap test same ∙ h)
any_at test (m ∷ ns) (suc j) n e h = or_right (test m) (list_any test ns) (any_at test ns j n e h)

kept : (b : Bool) (old : List Node) (node : Node) → ((if b then old else (old ++ node ∷ [])) ≡ old) ⊎ ((if b then old else (old ++ node ∷ [])) ≡ old ++ node ∷ [])
kept true old node = inl refl
kept false old node = inr refl

pub shares : (old new : List Node) (node stored : Node) (k : ℕ) → new ≡ insert_key equal old node → slice_get new k ≡ Some stored → equal node stored ≡ true → Shares old new node k
shares old new node stored k keys at same = record {
  keeps = rw keys (kept (list_any (equal node) old) old node);
  stands = at ∙ ap Some (sym (equal_node node stored same));
  once = λ j here. keys ∙ ap (λ (b : Bool). if b then old else (old ++ node ∷ [])) (any_at (equal node) old j node here (node_itself node));
}

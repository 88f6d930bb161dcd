-- What the code knows of targets and nodes holds while nodes grow.
use Rattle.std.proofs.Common.{◌≡◌, ℕ, List, length, Option, Some, None, refl, ◌∙◌}
use Rattle.fir_ast.specs.Types.{DataType}
use Rattle.fir_leaf.specs.declared.node.Node.{Node}
use Rattle.fir_leaf.specs.working.Nodes.{Gives, Grows}
use Rattle.fir_meaning.specs.working.Targets as over
use Rattle.fir_meaning.specs.working.Terms.{Term}
use Rattle.fir_leaf_pairs.specs.declared.target.Target.{Target}
use Rattle.fir_leaf_pairs.specs.working.Drives.{HasTarget, MayHaveTarget, Stand}
use Rattle.fir_ground.specs.working.Expressions.{MayName}
use Rattle.fir_leaf_pairs.specs.working.TargetNames.{Names}
use Rattle.fir_leaf_pairs.specs.working.Reads.{IsWithin}
use Rattle.fir_leaf_pairs.proofs.Entries.{grows_length, picks_keep, picks_stay}
use Rattle.fir_leaf_pairs.proofs.Giving.{all_keep, below_stays}

pub names_stay : (ts : List DataType) (old new : List Node) (t : Target) (r : over.Target) → Grows old new → Names ts old t r → Names ts new t r
names_stay ts old new t r g n = record {
  base = n.base;
  within = picks_stay (length old) (length new) t.picks (grows_length old new g) n.within;
  picks = picks_keep old new t.picks g n.within ∙ n.picks;
  data_type = n.data_type;
}

pub has_stays : (ts : List DataType) (old new : List Node) (n : ℕ) (t : Target) (r : over.Target) → Grows old new → HasTarget ts old n t r
    → HasTarget ts new n t r
has_stays ts old new n t r g h = record { names = names_stay ts old new t r g h.names; room = h.room }

pub may_stay : (ts : List DataType) (old new : List Node) (n : ℕ) (t : Option Target) (r : Option over.Target) → Grows old new → MayHaveTarget ts old n t r
    → MayHaveTarget ts new n t r
may_stay ts old new n None None g h = tt
may_stay ts old new n None (Some r) g h = h
may_stay ts old new n (Some t) None g h = h
may_stay ts old new n (Some t) (Some r) g h = has_stays ts old new n t r g h

pub stand_stays : (old new : List Node) (ids : List ℕ) (ts : List Term) → Grows old new → Stand old ids ts → Stand new ids ts
stand_stays old new ids ts g h = record {
  within = below_stays (length old) (length new) ids (grows_length old new g) h.within;
  terms = all_keep old new ids g h.within ∙ h.terms;
}

pub gives_stand : (old new : List Node) (ids : List ℕ) (ts : List Term) → Gives old new ids ts → Stand new ids ts
gives_stand old new ids ts g = record { within = g.within; terms = g.terms }

-- with room for its leaves
pub may_have : (ts : List DataType) (nodes : List Node) (n : ℕ) (t : Option Target) (r : Option over.Target)
    → ((x : over.Target) → r ≡ Some x → IsWithin x.base n) → MayName ts nodes t r → MayHaveTarget ts nodes n t r
may_have ts nodes n None None room h = tt
may_have ts nodes n None (Some r) room h = h
may_have ts nodes n (Some t) None room h = h
may_have ts nodes n (Some t) (Some r) room h = record { names = h; room = room r refl }

-- While nodes are gone through, the kept ones stand in front, renumbered, and behind them those that are not gone through yet stand as they did.
use Rattle.std.proofs.Common.{◌≡◌, ℕ, ◌+◌, ◌<◌, ◌≤◌, List, [], ◌∷◌, ◌++◌, length, get_or, set, take, drop, Some, Bool, true, false, refl, sym, ap, ◌∙◌, subst, arith, length-set}
use Rattle.std.specs.List.{swap}
use Rattle.std.specs.Prelude.{slice_get}
use Rattle.std.proofs.lemmas.List.{drop-drop, drop_more, length-take-le}
use Rattle.std.proofs.lemmas.List.Edits.{length-swap}
use Rattle.std.proofs.lemmas.Option.{slice_get_read}
use Rattle.fir_net.specs.declared.node.Node.{Node}
use Rattle.fir_merge.specs.working.NodeTerms.{ReadBefore}
use Rattle.fir_whens.specs.declared.net_role.NetRole.{NetRole}
use Rattle.fir_flatten.specs.working.KeptNodes.{AreNeeded, HasForm, moved_node}
use Rattle.fir_flatten.proofs.CopiedNodes.{Copied, none_more, one_more}
use Rattle.fir_flatten.proofs.PutInFront.{behind_put, put_front}

module _ (nodes : List Node) (roles : List NetRole) (marks : List Bool) where
  pub record KeptInPlace (so_far count : ℕ) (now : List Node) (places : List ℕ) : Type 0 where
    pub long : length now ≡ length nodes
    pub few : count ≤ so_far
    pub behind : drop so_far now ≡ drop so_far nodes
    pub front : ReadBefore 0 nodes → Copied nodes roles marks so_far (take count now) places

  module _ (i count : ℕ) (now : List Node) (places : List ℕ) (within : i < length nodes) (so : KeptInPlace i count now places) where
    short : i < length now
    short = omega (arith, so.long)

    same_next : (n : Node) → get_or now i n ≡ get_or nodes i n
    same_next n =
        let one = drop_more now i n short in
        let other = drop_more nodes i n within in
        cc so.behind

    same_behind : drop (i + 1) now ≡ drop (i + 1) nodes
    same_behind = sym (drop-drop 1 i now) ∙ ap (drop 1) so.behind ∙ drop-drop 1 i nodes

    pub none_kept : slice_get marks i ≡ Some false → KeptInPlace (i + 1) count now (places ++ count ∷ [])
    none_kept unset = record {
      long = so.long;
      few = omega (arith, so.few);
      behind = same_behind;
      front = λ before. none_more nodes roles marks i (take count now) places count unset (so.front before);
    }

    pub one_kept : (ReadBefore 0 nodes → AreNeeded nodes roles marks) → (n : Node) → n ≡ get_or now i n → HasForm n → slice_get marks i ≡ Some true
        → KeptInPlace (i + 1) (count + 1) (swap (set now i (moved_node places n)) count i) (places ++ count ∷ [])
    one_kept needed n is form marked =
        let renumbered = moved_node places n in
        let at : slice_get nodes i ≡ Some n = slice_get_read nodes (length nodes) i n refl within (is ∙ same_next n) in
        let in_front : length (take count now) ≡ count = length-take-le count now (omega (arith, so.few, short)) in
        record {
          long = length-swap (set now i renumbered) count i ∙ length-set now i renumbered ∙ so.long;
          few = omega (arith, so.few);
          behind = behind_put now count i renumbered so.few short ∙ same_behind;
          front = λ before.
              rw (put_front now count i renumbered so.few short)
              (subst (λ (p : ℕ). Copied nodes roles marks (i + 1) (take count now ++ renumbered ∷ []) (places ++ p ∷ [])) in_front
              (one_more nodes roles marks (needed before) before i n (take count now) places at marked form (so.front before)));
        }

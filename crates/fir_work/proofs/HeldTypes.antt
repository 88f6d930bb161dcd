-- What leaves and nodes have among held numbers is of their types, and so is what nodes make of it.
use Rattle.std.proofs.Common.{◌≡◌, ℕ, ◌^◌, ◌<◌, ◌≤◌, max, nat_eq, arith, List, [], ◌∷◌, map, Bool, true, false, if◌then◌else◌, refl, ap, ◌∙◌, subst, Ok}
use Rattle.std.specs.Prelude.{slice_get, Some}
use Rattle.std.specs.List.{AllByRecursion}
use Rattle.std.proofs.lemmas.Result.{IfOk-at_ok}
use Rattle.std.proofs.lemmas.List.Elements.{All-from_recursion}
use Rattle.fir_bits.specs.Values.{IsBitVector}
use Rattle.fir_bits.specs.working.Laws.{HasItsType}
use Rattle.fir_bits.specs.working.Types.{typed}
use Rattle.fir_bits.specs.working.Operators.{type_of}
use Rattle.fir_bits.specs.Operators.{applied, outcome}
use Rattle.fir_bits.specs.declared.types.NumTy.{NumTy}
use Rattle.fir_bits.specs.declared.values.Num.{Num}
use Rattle.fir_net.specs.declared.reads.Read.{Read}
use Rattle.fir_net.specs.declared.node.Node.{Node}
use Rattle.fir_net.specs.declared.node.Node.TheVariants as node
use Rattle.fir_net.specs.declared.net.FlatNet.{FlatNet}
use Rattle.fir_net.specs.working.Values.{IsOfType, at_width, chosen}
use Rattle.fir_net.specs.working.IsNet.{node_type, read_type, CanRead, IsChoice, IsNode, IsNet}
use Rattle.fir_net.specs.working.Laws.{NodesHaveTheirTypes}
use Rattle.fir_net.proofs.WholeValues.{fit_below}
use Rattle.fir_work.specs.working.Numbers.{number_at, type_read, value_in}
use Rattle.fir_work.specs.working.NodeValues.{held_node}
use Rattle.fir_work.specs.working.Held.{IsHeld}
use Rattle.fir_work.proofs.HeldNumbers.{leaves_fit}
use Rattle.fir_work.proofs.WholeReads.{read_of}
use Rattle.fir_work.proofs.GeneralWay.{node_whole}

pub one_below : (b : Bool) (x y w : ℕ) → x < 2 ^ w → y < 2 ^ w → (if b then x else y) < 2 ^ w
one_below true x y w h g = h
one_below false x y w h g = g

greater_narrow : (x y w : ℕ) → x ≤ 128 → y ≤ 128 → w ≡ max x y → w ≤ 128
greater_narrow x y w h k e = omega arith

module _ (has : HasItsType) (types : NodesHaveTheirTypes) (net : FlatNet) (whole : IsNet net) (ns : List ℕ) (held : IsHeld net ns) where
  abbrev value : Read → Num
  value = value_in net ns

  -- what is read is of its type
  pub read_is : (r : Read) → CanRead net.leaves net.nodes r → IsOfType (type_read net r) (value r)
  read_is r can =
      let typed_as = types net (number_at ns) r whole (leaves_fit net ns held) can in
      record {
        bits = record { narrow = subst (λ (t : NumTy). t.width ≤ 128) typed_as.is typed_as.bits.narrow; below = held.fits r (read_of net r can) };
        is = refl;
      }

  pub read_below : (w : ℕ) (r : Read) → CanRead net.leaves net.nodes r → at_width (value r) w < 2 ^ w
  read_below w r can = fit_below (value r) w (read_is r can).bits

  -- what a node computes is of its type
  all_whole : (rs : List Read) → AllByRecursion (CanRead net.leaves net.nodes) rs → AllByRecursion (λ a. IsBitVector a.value) (map value rs)
  all_whole [] can = tt
  all_whole (r ∷ rs) can = ((read_is r can.0).bits, all_whole rs can.1)

  all_types : (rs : List Read) → map type_of (map value rs) ≡ map (type_read net) rs
  all_types [] = refl
  all_types (r ∷ rs) = ap (λ (ts : List NumTy). type_read net r ∷ ts) (all_types rs)

  choice_is : (t : NumTy) (rs : List Read) → AllByRecursion (CanRead net.leaves net.nodes) rs → IsChoice t (map (read_type net.leaves net.nodes) rs) → IsOfType t (chosen t (map value rs))
  choice_is t [] can is = absurd is
  choice_is t (c ∷ []) can is = absurd is
  choice_is t (c ∷ a ∷ []) can is = absurd is
  choice_is t (c ∷ a ∷ b ∷ []) can is =
      let x = read_is a can.1.0 in
      let y = read_is b can.1.1.0 in
      record {
        bits = record {
          narrow = greater_narrow (type_read net a).width (type_read net b).width t.width x.bits.narrow y.bits.narrow is.3;
          below = one_below (nat_eq (value c).value.number 1) (at_width (value a) t.width) (at_width (value b) t.width) t.width (fit_below (value a) t.width x.bits) (fit_below (value b) t.width y.bits);
        };
        is = refl;
      }
  choice_is t (c ∷ a ∷ b ∷ d ∷ rs) can is = absurd is

  by_form : (n : Node) → IsNode net.leaves net.nodes n → IsOfType (node_type n) (held_node value n)
  by_form (node.Literal v) is = record { bits = is; is = refl }
  by_form (node.Operation o) is =
      let args = map value o.reads in
      let t : typed o.op (map type_of args) o.integers ≡ Ok (node_type (node.Operation o)) =
      ap (λ (ts : List NumTy). typed o.op ts o.integers) (all_types o.reads) ∙ is.has_type in
      let r = IfOk-at_ok (λ (u : NumTy). IsBitVector (applied o.op args o.integers) × (type_of (outcome o.op args o.integers) ≡ u)) t
      (has o.op args o.integers (All-from_recursion (λ (a : Num). IsBitVector a.value) args (all_whole o.reads is.reads))) in
      record { bits = r.0; is = r.1 }
  by_form (node.Mux m) is = choice_is (node_type (node.Mux m)) m.reads is.reads is.has_type

  pub node_is : (k : ℕ) (n : Node) → slice_get net.nodes k ≡ Some n → IsOfType (node_type n) (held_node value n)
  node_is k n at = by_form n (node_whole net whole k n at)

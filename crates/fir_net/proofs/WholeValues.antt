-- Where all leaves have values of their widths, all nodes have values of their types, and so has what is read.
-- It goes along the nodes by the law of the operator table.
use Rattle.std.proofs.Common.{◌≡◌, ℕ, zero, suc, ◌^◌, ◌%◌, ◌<◌, ◌≤◌, max, List, [], ◌∷◌, ◌++◌, map, Bool, true, false, if◌then◌else◌, refl, sym, ap, ◌∙◌, subst, arith, append_assoc, append-nil, Ok, unwrap_or, option_map, lit<, lit≤}
use Rattle.std.specs.Prelude.{slice_get, nat_eq, nat_le, Option, Some}
use Rattle.std.specs.List.{AllByRecursion}
use Rattle.std.proofs.lemmas.Bool.{leb-true}
use Rattle.std.proofs.lemmas.Nat.{mod_below, pow_pos}
use Rattle.std.proofs.lemmas.Result.{IfOk-at_ok}
use Rattle.std.proofs.lemmas.List.{map_push}
use Rattle.std.proofs.lemmas.List.Elements.{All-from_recursion}
use Rattle.fir_base.proofs.Elements.{all_there}
use Rattle.fir_base.proofs.Each.{all_joined}
use Rattle.fir_bits.specs.Values.{IsBitVector}
use Rattle.fir_bits.specs.working.Laws.{HasItsType}
use Rattle.fir_bits.specs.Forms.{no_type}
use Rattle.fir_bits.specs.working.Types.{typed}
use Rattle.fir_bits.specs.Operators.{no_operand, widened, applied, outcome}
use Rattle.fir_bits.specs.working.Operators.{type_of}
use Rattle.fir_bits.specs.declared.types.NumTy.{NumTy}
use Rattle.fir_bits.specs.declared.values.Num.{Num}
use Rattle.fir_bits.proofs.Below.{widened_below}
use Rattle.fir_net.specs.declared.reads.Read.{Read}
use Rattle.fir_net.specs.declared.reads.Read.TheVariants as read
use Rattle.fir_net.specs.declared.leaf.Leaf.{Leaf}
use Rattle.fir_net.specs.declared.node.Node.{Node}
use Rattle.fir_net.specs.declared.node.Node.TheVariants as node
use Rattle.fir_net.specs.declared.net.FlatNet.{FlatNet}
use Rattle.fir_net.specs.working.Values.{IsOfType, number_of, at_width, type_of_leaf, leaf_type, leaf_width, read_value, node_value, chosen, values_from, values}
use Rattle.fir_net.specs.working.IsNet.{node_type, read_type, CanRead, IsChoice, IsNode, AreNodes, IsLeaf, IsNet}
use Rattle.fir_net.specs.working.Settled.{value_at, is_clock}
use Rattle.fir_net.specs.working.Laws.{LeavesFit, NodesHaveTheirTypes}

-- the width and the type of a leaf that there is
pub width_at : (leaves : List Leaf) (k : ℕ) (l : Leaf) → slice_get leaves k ≡ Some l → leaf_width leaves k ≡ l.width
width_at leaves k l at = ap (λ (o : Option Leaf). unwrap_or (option_map (λ (m : Leaf). m.width) o) 0) at

pub type_at : (leaves : List Leaf) (k : ℕ) (l : Leaf) → slice_get leaves k ≡ Some l → leaf_type leaves k ≡ type_of_leaf l
type_at leaves k l at = ap (λ (o : Option Leaf). unwrap_or (option_map type_of_leaf o) no_type) at

-- a whole value at a width is below two to the power of it
pub fit_below : (v : Num) (w : ℕ) → IsBitVector v.value → at_width v w < 2 ^ w
fit_below v w is = by_test (nat_le v.value.width w) refl
  where
    by_test : (b : Bool) → nat_le v.value.width w ≡ b → (if b then widened v w else v.value.number % 2 ^ w) < 2 ^ w
    by_test true e = widened_below v w is (leb-true v.value.width w e)
    by_test false e = mod_below v.value.number (2 ^ w) (pow_pos w)

-- the known values are those of nodes
record Known (known : List Num) (before : List Node) : Type 0 where
  whole : AllByRecursion (λ v. IsBitVector v.value) known
  types : map type_of known ≡ map node_type before

-- the value at a number is whole, and of the type at that number; past the end both are those of no bits
pub entry_whole : (known : List Num) → AllByRecursion (λ v. IsBitVector v.value) known → (k : ℕ) → IsBitVector (unwrap_or (slice_get known k) no_operand).value
entry_whole [] h k = record { narrow = lit≤ tt; below = lit< tt }
entry_whole (v ∷ known) h zero = h.0
entry_whole (v ∷ known) h (suc k) = entry_whole known h.1 k

pub entry_typed : {A : Type 0} → (of : A → NumTy) (known : List Num) (xs : List A) → map type_of known ≡ map of xs → (k : ℕ)
    → type_of (unwrap_or (slice_get known k) no_operand) ≡ unwrap_or (option_map of (slice_get xs k)) no_type
entry_typed of [] [] h k = refl
entry_typed of [] (x ∷ xs) h k = cc
entry_typed of (v ∷ vs) [] h k = cc
entry_typed of (v ∷ vs) (x ∷ xs) h zero = cc
entry_typed {A} of (v ∷ vs) (x ∷ xs) h (suc k) = let rest : map type_of vs ≡ map of xs = cc in entry_typed {A = A} of vs xs rest k

-- of two values the one that is chosen, at a width
chosen_below : (b : Bool) (x y : Num) (w : ℕ) → IsBitVector x.value → IsBitVector y.value → (if b then at_width x w else at_width y w) < 2 ^ w
chosen_below true x y w is_x is_y = fit_below x w is_x
chosen_below false x y w is_x is_y = fit_below y w is_y

greater_narrow : (x y w : ℕ) → x ≤ 128 → y ≤ 128 → w ≡ max x y → w ≤ 128
greater_narrow x y w h k e = omega arith

module _
    (law : HasItsType) (leaves : List Leaf) (nodes : List Node) (are_leaves : AllByRecursion (IsLeaf leaves nodes) leaves)
    (env : ℕ → ℕ) (fit : LeavesFit leaves env) where
  leaf_is : (k : ℕ) (l : Leaf) → slice_get leaves k ≡ Some l → is_clock l.role ≡ false → IsOfType (leaf_type leaves k) (number_of (leaf_type leaves k) (env k))
  leaf_is k l at plain =
      let is = all_there (IsLeaf leaves nodes) leaves are_leaves k l at in
      rw (type_at leaves k l at) (record { bits = record { narrow = is.narrow; below = fit.each k l at plain }; is = refl })

  module _ (known : List Num) (before : List Node) (are : Known known before) where
    abbrev value : Read → Num
    value r = read_value leaves env known r

    read_is : (r : Read) → CanRead leaves before r → IsOfType (read_type leaves before r) (value r)
    read_is (read.Leaf k) can = leaf_is k can.0 can.1 can.2
    read_is (read.Node k) can = record { bits = entry_whole known are.whole k; is = entry_typed node_type known before are.types k }

    all_whole : (rs : List Read) → AllByRecursion (CanRead leaves before) rs → AllByRecursion (λ a. IsBitVector a.value) (map value rs)
    all_whole [] can = tt
    all_whole (r ∷ rs) can = ((read_is r can.0).bits, all_whole rs can.1)

    all_types : (rs : List Read) → AllByRecursion (CanRead leaves before) rs → map type_of (map value rs) ≡ map (read_type leaves before) rs
    all_types [] can = refl
    all_types (r ∷ rs) can = rw ((read_is r can.0).is, all_types rs can.1) refl

    choice_is : (t : NumTy) (rs : List Read) → AllByRecursion (CanRead leaves before) rs → IsChoice t (map (read_type leaves before) rs) → IsOfType t (chosen t (map value rs))
    choice_is t [] can is = absurd is
    choice_is t (c ∷ []) can is = absurd is
    choice_is t (c ∷ a ∷ []) can is = absurd is
    choice_is t (c ∷ a ∷ b ∷ []) can is =
        let x = read_is a can.1.0 in
        let y = read_is b can.1.1.0 in
        let wide : (value a).value.width ≡ (read_type leaves before a).width = ap (λ (u : NumTy). u.width) x.is in
        let other : (value b).value.width ≡ (read_type leaves before b).width = ap (λ (u : NumTy). u.width) y.is in
        let greater : t.width ≡ max (value a).value.width (value b).value.width = is.3 ∙ rw (wide, other) refl in
        record {
          bits = record {
            narrow = greater_narrow (value a).value.width (value b).value.width t.width x.bits.narrow y.bits.narrow greater;
            below = chosen_below (nat_eq (value c).value.number 1) (value a) (value b) t.width x.bits y.bits;
          };
          is = refl;
        }
    choice_is t (c ∷ a ∷ b ∷ d ∷ rs) can is = absurd is

    node_is : (n : Node) → IsNode leaves before n → IsOfType (node_type n) (node_value leaves env known n)
    node_is (node.Literal v) is = record { bits = is; is = refl }
    node_is (node.Operation o) is =
        let args = map value o.reads in
        let t : typed o.op (map type_of args) o.integers ≡ Ok (node_type (node.Operation o)) =
        ap (λ (ts : List NumTy). typed o.op ts o.integers) (all_types o.reads is.reads) ∙ is.has_type in
        let r = IfOk-at_ok (λ (u : NumTy). IsBitVector (applied o.op args o.integers) × (type_of (outcome o.op args o.integers) ≡ u)) t
        (law o.op args o.integers (All-from_recursion (λ (a : Num). IsBitVector a.value) args (all_whole o.reads is.reads))) in
        record { bits = r.0; is = r.1 }
    node_is (node.Mux m) is = choice_is (node_type (node.Mux m)) m.reads is.reads is.has_type

    one_more : (n : Node) → IsNode leaves before n → Known (known ++ node_value leaves env known n ∷ []) (before ++ n ∷ [])
    one_more n is =
        let v = node_value leaves env known n in
        let here = node_is n is in
        record {
          whole = all_joined (λ (x : Num). IsBitVector x.value) known (v ∷ []) are.whole (here.bits, tt);
          types =
              map_push type_of known v ∙ ap (λ (t : NumTy). map type_of known ++ t ∷ []) here.is
              ∙ ap (λ (ts : List NumTy). ts ++ node_type n ∷ []) are.types ∙ sym (map_push node_type before n);
        }

  along : (ns before : List Node) (known : List Num) → AreNodes leaves before ns → Known known before → Known (values_from leaves env known ns) (before ++ ns)
  unfolding values_from
  along [] before known are is = subst (Known known) (sym (append-nil before)) is
  along (n ∷ ns) before known are is =
      let v = node_value leaves env known n in
      subst (Known (values_from leaves env (known ++ v ∷ []) ns)) (append_assoc before (n ∷ []) ns)
      (along ns (before ++ n ∷ []) (known ++ v ∷ []) are.1 (one_more known before is n are.0))

-- what can be read has a value of its type
pub nodes_have_types : HasItsType → NodesHaveTheirTypes
nodes_have_types law net env r whole fit can =
    let all = along law net.leaves net.nodes whole.leaves env fit net.nodes [] [] whole.nodes (record { whole = tt; types = refl }) in
    read_is law net.leaves net.nodes whole.leaves env fit (values net env) net.nodes all r can

-- and it is of its width
pub value_whole : HasItsType → (net : FlatNet) → IsNet net → (env : ℕ → ℕ) → LeavesFit net.leaves env → (r : Read) → CanRead net.leaves net.nodes r
    → IsBitVector (value_at net env r).value
value_whole law net whole env fit r can = (nodes_have_types law net env r whole fit can).bits

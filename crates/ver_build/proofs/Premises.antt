-- What a tree is built from: a whole net that can be written, an order of it, a table of its names, and where its values are.
-- A leaf has a name where it is a port or a register that has bits.
use Rattle.std.proofs.Common.{◌≡◌, ℕ, ◌≤◌, List, true, false, not, ◌&&◌, nat_eq, Option, Some, None, refl, arith}
use Rattle.std.proofs.lemmas.Bool.{eqb-true, eqb-false, cond_both}
use Rattle.std.specs.Prelude.{slice_get}
use Rattle.std.specs.List.{AllByRecursion}
use Rattle.fir_base.specs.Lists.{Distinct}
use Rattle.fir_base.proofs.Each.{all_from}
use Rattle.fir_base.proofs.Elements.{number_of}
use Rattle.fir_net.specs.declared.reads.Read.{Read}
use Rattle.fir_net.specs.declared.leaf.Role.{Role}
use Rattle.fir_net.specs.declared.leaf.Role.TheVariants as role
use Rattle.fir_net.specs.declared.leaf.Leaf.{Leaf}
use Rattle.fir_net.specs.declared.net.FlatNet.{FlatNet}
use Rattle.fir_net_names.specs.declared.name_table.NameTable.{NameTable}
use Rattle.fir_net.specs.working.IsNet.{is_state, IsLeaf, IsNet}
use Rattle.fir_net.specs.working.IsOrder.{IsOrder}
use Rattle.fir_net.specs.working.IsWritable.{HasNoPipes, IsWritable, IsWritableRole}
use Rattle.fir_net.specs.working.Counted.{is_register}
use Rattle.fir_net_names.specs.working.IsTable.{IsTable}
use Rattle.fir_net.specs.working.Laws.{NodesHaveTheirValues, NodesHaveTheirTypes, OrderedHasOne}
use Rattle.fir_net_names.specs.working.TableNames.{table_names}
use Rattle.ver_words.specs.Names.{IsName}
use Rattle.ver_ast.specs.working.Laws.{ValidHasOneRest}
use Rattle.ver_build.specs.declared.places.Places.{Places}
use Rattle.ver_build.specs.working.Places.{IsPlaces}
use Rattle.ver_build.proofs.LeafKinds.{has_name, is_pipe, is_wire}

-- the laws of nets and trees that are used
pub record AreLaws : Type 0 where
  pub values : NodesHaveTheirValues
  pub types : NodesHaveTheirTypes
  pub one_choice : OrderedHasOne
  pub one_rest : ValidHasOneRest

pub record Premises (net : FlatNet) (t : NameTable) (p : Places) (order : List Read) : Type 0 where
  pub laws : AreLaws
  pub whole : IsNet net
  pub writable : IsWritable net
  pub pipes : HasNoPipes net
  pub ordered : IsOrder net order
  pub table : IsTable net t
  pub places : IsPlaces net t order p
  pub once : Distinct (table_names t)
  pub spelled : AllByRecursion IsName (table_names t)
  pub circuit : IsName t.circuit

-- no leaf is a pipe, so a word of the state is a register
pub no_pipe : (net : FlatNet) → HasNoPipes net → (k : ℕ) (l : Leaf) → slice_get net.leaves k ≡ Some l → is_pipe l.role ≡ false
no_pipe net pipes k l at = by l.role refl
  where
    by : (d : Role) → l.role ≡ d → is_pipe d ≡ false
    by (role.Pipe p) e = absurd (pipes.none k l p at e)
    by _ e = refl

pub state_register : (r : Role) → is_pipe r ≡ false → is_state r ≡ true → is_register r ≡ true
state_register (role.Register r) plain e = refl
state_register _ plain e = absurd (cc)

pub register_state : (r : Role) → is_register r ≡ true → is_state r ≡ true
register_state (role.Register r) e = refl
register_state _ e = absurd (cc)

abbrev pub LeafNamed : Leaf → Option (List ℕ) → Type 0
LeafNamed l None = has_name l ≡ false
LeafNamed l (Some name) = has_name l ≡ true

-- a leaf of that role and width has a name, or has none
abbrev pub RoleNamed : Role → ℕ → Option (List ℕ) → Type 0
RoleNamed r w None = (not (is_wire r) && not (nat_eq w 0)) ≡ false
RoleNamed r w (Some name) = (not (is_wire r) && not (nat_eq w 0)) ≡ true

pub role_named : (l : Leaf) (n : Option (List ℕ)) → LeafNamed l n → RoleNamed l.role l.width n
role_named l None h = h
role_named l (Some name) h = h

-- what has bits has a name
abbrev pub BitsNamed : ℕ → Option (List ℕ) → Type 0
BitsNamed w None = w ≡ 0
BitsNamed w (Some name) = 1 ≤ w

pub some_bits : (w : ℕ) → not (nat_eq w 0) ≡ true → 1 ≤ w
some_bits w h =
    cond_both {A = ℕ} (nat_eq w 0) 0 0 (λ _. 1 ≤ w) (λ t. let bad : not true ≡ true = rw t at h in cc)
    (λ t. let some : w ≡ 0 → ⊥ = eqb-false _ _ t in omega arith)

pub no_bits : (w : ℕ) → not (nat_eq w 0) ≡ false → w ≡ 0
no_bits w h = cond_both {A = ℕ} (nat_eq w 0) 0 0 (λ _. w ≡ 0) (λ t. eqb-true _ _ t) (λ t. let bad : not false ≡ false = rw t at h in cc)

pub bits_named : (r : Role) (w : ℕ) (n : Option (List ℕ)) → is_wire r ≡ false → RoleNamed r w n → BitsNamed w n
bits_named r w None plain h = let bits : not (nat_eq w 0) ≡ false = rw plain at h in no_bits w bits
bits_named r w (Some name) plain h = let bits : not (nat_eq w 0) ≡ true = rw plain at h in some_bits w bits

-- each leaf with what is known of it in a whole net, and in one that can be written
abbrev pub Whole : FlatNet → Leaf → Option (List ℕ) → Type 0
Whole net l n = LeafNamed l n × IsLeaf net.leaves net.nodes l

abbrev pub Known : FlatNet → Leaf → Option (List ℕ) → Type 0
Known net l n = LeafNamed l n × IsLeaf net.leaves net.nodes l × IsWritableRole l.role

pub all_by_number : {A : Type 0} → (P : A → Type 0) (xs : List A) → ((k : ℕ) (x : A) → slice_get xs k ≡ Some x → P x) → AllByRecursion P xs
all_by_number P xs h = all_from P xs (λ x m. let n = number_of xs x m in h n.0 x n.1)

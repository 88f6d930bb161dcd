-- The leaves that have names in the order in which they took them, and their names beside them: the ports, and then the words of the state.
use Rattle.std.proofs.Common.{◌≡◌, ℕ, zero, suc, ◌+◌, ◌<◌, ◌≤◌, List, [], ◌∷◌, ◌++◌, length, Bool, true, false, not, ◌&&◌, nat_eq, Option, Some, None, refl, sym, ap, ◌∙◌, inl, inr, ◌⊎◌, ⊎_elim, subst, append-nil, arith}
use Rattle.std.specs.Prelude.{map, slice_get}
use Rattle.std.specs.List.{AllByRecursion}
use Rattle.std.proofs.lemmas.Bool.{and_from, and_parts, both_ways, cases_lt}
use Rattle.std.proofs.lemmas.Grind.{flat_map-append}
use Rattle.fir_base.specs.Lists.{In, Distinct}
use Rattle.fir_base.specs.Words.{is_among}
use Rattle.fir_base.proofs.Each.{all_at, all_from}
use Rattle.fir_base.proofs.Elements.{there, all_there, get_in, number_of}
use Rattle.fir_base.proofs.Members.{in_left, in_right, in_either}
use Rattle.fir_base.proofs.Twins.{distinct_left}
use Rattle.ver_words.specs.Names.{IsName}
use Rattle.fir_net.specs.declared.array.Array.{Array}
use Rattle.fir_net.specs.declared.reads.Read.{Read}
use Rattle.fir_net.specs.declared.leaf.Role.{Role}
use Rattle.fir_net.specs.declared.leaf.Role.TheVariants as role
use Rattle.fir_net.specs.declared.leaf.Leaf.{Leaf}
use Rattle.fir_net.specs.declared.net.FlatNet.{FlatNet}
use Rattle.fir_net.specs.working.Counted.{is_register}
use Rattle.fir_net.specs.working.IsNet.{is_port, IsLeaf, IsNet, AreInside, ArePortsFirst, is_state}
use Rattle.fir_net_names.specs.declared.name_table.NameTable.{NameTable}
use Rattle.fir_net_names.specs.Names.{is_free, inner_name}
use Rattle.ver_words.specs.Reserved.{is_reserved}
use Rattle.fir_net_names.specs.working.IsTable.{IsTable}
use Rattle.fir_net_names.specs.working.LeafNamed.{somes, port_number, named_ports, named_leaves, array_base, base_at, name_at}
use Rattle.fir_net_names.specs.working.TableNames.{table_names}
use Rattle.fir_net_names.proofs.NamesInTurn.{names_distinct}
use Rattle.fir_net_names.proofs.HeldNames.{same_names}
use Rattle.fir_net_names.proofs.NumbersNamed.{number_given, number_lacking, port_at, named_leaf}
use Rattle.fir_net_names.proofs.TableNames.{in_table, table_number, in_order, order_number}
use Rattle.ver_build.specs.declared.places.Places.{Places}
use Rattle.ver_build.specs.working.Built.{along, at_number, at_numbers}
use Rattle.ver_build.specs.working.Places.{AreInnerTo}
use Rattle.ver_build.proofs.Names.{NameList, Each, zipped, along_zipped, each_part, each_at}
use Rattle.ver_build.proofs.LeafKinds.{has_name, name_if, sized_if, picked, no_size, no_name}
use Rattle.ver_build.proofs.Picked.{picked_at}
use Rattle.ver_build.proofs.Premises.{Premises, LeafNamed, Whole, Known}
use Rattle.ver_build.proofs.TableLeaves.{has_number, word_leaf, leaf_named, leaves_named}

-- a leaf, where there is one, before others
abbrev with_leaf : Option Leaf → List Leaf → List Leaf
with_leaf None ls = ls
with_leaf (Some l) ls = l ∷ ls

-- the leaves of these numbers
abbrev numbered_leaves : List Leaf → List ℕ → List Leaf
numbered_leaves leaves [] = []
numbered_leaves leaves (k ∷ ks) = with_leaf (slice_get leaves k) (numbered_leaves leaves ks)

unfoldable pub ordered_leaves : FlatNet → List Leaf
ordered_leaves net = numbered_leaves net.leaves (named_leaves net)

unfoldable pub ordered_names : FlatNet → NameTable → NameList
ordered_names net t = map (name_at t.leaves) (named_leaves net)

-- the names of these leaves, and then those of arrays in the order of the state
abbrev pub ordered_all : FlatNet → NameTable → List (List ℕ)
ordered_all net t = somes (ordered_names net t) ++ somes (map (name_at t.arrays) net.array_order)

-- what only ports that have names give, and what no port gives
pub record OfPorts {B : Type 0} (f : Leaf → Option (List ℕ) → List B) : Type 0 where
  pub unnamed : (l : Leaf) → f l None ≡ []
  pub inside : (l : Leaf) (n : Option (List ℕ)) → is_port l.role ≡ false → f l n ≡ []

pub record OfWords {B : Type 0} (f : Leaf → Option (List ℕ) → List B) : Type 0 where
  pub ports : (l : Leaf) (n : Option (List ℕ)) → is_port l.role ≡ true → f l n ≡ []

-- the names of kinds, and these with their widths
pub names_port : (q : Role → Bool) → ((r : Role) → is_port r ≡ false → q r ≡ false) → OfPorts (λ l n. name_if (q l.role) n)
names_port q port =
    record { unnamed = λ l. no_name (q l.role); inside = λ l n e. let no : q l.role ≡ false = port l.role e in rw no refl }

pub sizes_port : (q : Role → Bool) → ((r : Role) → is_port r ≡ false → q r ≡ false) → OfPorts (λ l n. sized_if (q l.role) l.width n)
sizes_port q port =
    record { unnamed = λ l. no_size (q l.role) l.width; inside = λ l n e. let no : q l.role ≡ false = port l.role e in rw no refl }

no_register : (r : Role) → is_port r ≡ true → is_register r ≡ false
no_register (role.Register d) e = absurd (cc)
no_register _ e = refl

pub names_word : OfWords (λ l n. name_if (is_register l.role) n)
names_word = record { ports = λ l n e. let no : is_register l.role ≡ false = no_register l.role e in rw no refl }

pub sizes_word : OfWords (λ l n. sized_if (is_register l.role) l.width n)
sizes_word = record { ports = λ l n e. let no : is_register l.role ≡ false = no_register l.role e in rw no refl }

-- each of the numbers is that of a leaf
record HaveLeaves (leaves : List Leaf) (ks : List ℕ) : Type 0 where
  each : (k : ℕ) → In ks k → (l : Leaf) × (slice_get leaves k ≡ Some l)

behind : (leaves : List Leaf) (k : ℕ) (ks : List ℕ) → HaveLeaves leaves (k ∷ ks) → HaveLeaves leaves ks
behind leaves k ks have = record { each = λ j m. have.each j (inr m) }

module _ (leaves : List Leaf) (names : NameList) where
  numbers_zipped : {B : Type 0} → (f : Leaf → Option (List ℕ) → List B) (ks : List ℕ) → HaveLeaves leaves ks
      → at_numbers f names leaves ks ≡ zipped f (map (name_at names) ks) (numbered_leaves leaves ks)
  unfolding zipped
  numbers_zipped f [] have = refl
  numbers_zipped f (k ∷ ks) have =
      let found = have.each k (inl refl) in
      let rest = numbers_zipped f ks (behind leaves k ks have) in
      let here : slice_get leaves k ≡ Some found.0 = found.1 in
      rw here (ap (λ xs. f found.0 (name_at names k) ++ xs) rest)

  numbers_each : (P : Leaf → Option (List ℕ) → Type 0) (ks : List ℕ) → HaveLeaves leaves ks
      → ((k : ℕ) (l : Leaf) → In ks k → slice_get leaves k ≡ Some l → P l (name_at names k))
      → Each P (map (name_at names) ks) (numbered_leaves leaves ks)
  numbers_each P [] have h = tt
  numbers_each P (k ∷ ks) have h =
      let found = have.each k (inl refl) in
      let rest = numbers_each P ks (behind leaves k ks have) (λ j l m at. h j l (inr m) at) in
      let first = h k found.0 (inl refl) found.1 in
      let here : slice_get leaves k ≡ Some found.0 = found.1 in
      rw here (first, rest)

  -- where the leaf of a number stands
  record StandsAt (l : Leaf) (name : Option (List ℕ)) (ks : List ℕ) : Type 0 where
    place : ℕ
    leaf : slice_get (numbered_leaves leaves ks) place ≡ Some l
    named : name_at (map (name_at names) ks) place ≡ name

  number_stands : (ks : List ℕ) → HaveLeaves leaves ks → (k : ℕ) (l : Leaf) → In ks k → slice_get leaves k ≡ Some l
      → StandsAt l (name_at names k) ks
  number_stands [] have k l m at = absurd m
  number_stands (j ∷ ks) have k l (inl e) at =
      let here : slice_get leaves j ≡ Some l = ap (slice_get leaves) e ∙ at in
      record { place = 0; leaf = rw here refl; named = ap (name_at names) e }
  number_stands (j ∷ ks) have k l (inr m) at =
      let rest = number_stands ks (behind leaves j ks have) k l m at in
      let found = have.each j (inl refl) in
      let here : slice_get leaves j ≡ Some found.0 = found.1 in
      record { place = suc rest.place; leaf = rw here rest.leaf; named = rest.named }

  -- the number of what stands there
  record NumberOf (l : Leaf) (name : Option (List ℕ)) (ks : List ℕ) : Type 0 where
    number : ℕ
    among : In ks number
    at : slice_get leaves number ≡ Some l
    named : name_at names number ≡ name

  stands_for : (ks : List ℕ) → HaveLeaves leaves ks → (i : ℕ) (l : Leaf) → slice_get (numbered_leaves leaves ks) i ≡ Some l
      → NumberOf l (name_at (map (name_at names) ks) i) ks
  stands_for [] have i l at = absurd (cc)
  stands_for (k ∷ ks) have i l at =
      let found = have.each k (inl refl) in
      let here : slice_get leaves k ≡ Some found.0 = found.1 in
      by i (rw here at at) (λ j. stands_for ks (behind leaves k ks have) j l)
    where
      by : (i : ℕ) → slice_get ((have.each k (inl refl)).0 ∷ numbered_leaves leaves ks) i ≡ Some l
          → ((j : ℕ) → slice_get (numbered_leaves leaves ks) j ≡ Some l → NumberOf l (name_at (map (name_at names) ks) j) ks)
          → NumberOf l (name_at (map (name_at names) (k ∷ ks)) i) (k ∷ ks)
      by zero e go =
          let found = have.each k (inl refl) in
          let same : found.0 ≡ l = cc in
          record { number = k; among = inl refl; at = found.1 ∙ ap Some same; named = refl }
      by (suc j) e go =
          let rest = go j e in
          record { number = rest.number; among = inr rest.among; at = rest.at; named = rest.named }

-- ports, and then what is no port
numbers_inside : (leaves : List Leaf) (ks : List ℕ) → ((k : ℕ) → In ks k → (l : Leaf) × (slice_get leaves k ≡ Some l) × (is_port l.role ≡ false))
    → AreInside (numbered_leaves leaves ks)
numbers_inside leaves [] h = tt
numbers_inside leaves (k ∷ ks) h =
    let found = h k (inl refl) in
    let here : slice_get leaves k ≡ Some found.0 = found.1 in
    let rest = numbers_inside leaves ks (λ j m. h j (inr m)) in
    rw here (found.2, rest)

inside_first : (ls : List Leaf) → AreInside ls → ArePortsFirst ls
inside_first [] h = tt
inside_first (l ∷ ls) h = let first : is_port l.role ≡ false = h.0 in rw first h.1

numbers_first : (leaves : List Leaf) (ps ks : List ℕ) → ((k : ℕ) → In ps k → (l : Leaf) × (slice_get leaves k ≡ Some l) × (is_port l.role ≡ true))
    → AreInside (numbered_leaves leaves ks) → ArePortsFirst (numbered_leaves leaves (ps ++ ks))
numbers_first leaves [] ks h inside = inside_first (numbered_leaves leaves ks) inside
numbers_first leaves (p ∷ ps) ks h inside =
    let found = h p (inl refl) in
    let here : slice_get leaves p ≡ Some found.0 = found.1 in
    let port : is_port found.0.role ≡ true = found.2 in
    let rest = numbers_first leaves ps ks (λ j m. h j (inr m)) inside in
    rw (here, port) rest

-- what is none is none of all
none_at : {B : Type 0} → (f : Leaf → Option (List ℕ) → List B) (names : NameList) (leaves : List Leaf) (ks : List ℕ)
    → ((k : ℕ) → In ks k → at_number f names leaves k ≡ []) → at_numbers f names leaves ks ≡ []
none_at f names leaves [] h = refl
none_at f names leaves (k ∷ ks) h = let here : at_number f names leaves k ≡ [] = h k (inl refl) in rw here (none_at f names leaves ks (λ j m. h j (inr m)))

-- what ports give along leaves is what the ports that have names give
module _ {B : Type 0} (f : Leaf → Option (List ℕ) → List B) (of : OfPorts f) (names : NameList) (all : List Leaf) where
  unnamed_gives : (l : Leaf) (n : Option (List ℕ)) → LeafNamed l n → (is_port l.role && not (nat_eq l.width 0)) ≡ false → f l n ≡ []
  unnamed_gives l None h e = of.unnamed l
  unnamed_gives l (Some name) h e = by (is_port l.role) refl
    where
      by : (b : Bool) → is_port l.role ≡ b → f l (Some name) ≡ []
      by false p = of.inside l (Some name) p
      by true p =
          let bits = (and_parts _ _ h).1 in
          absurd (both_ways (is_port l.role && not (nat_eq l.width 0)) e (and_from (is_port l.role) (not (nat_eq l.width 0)) p bits))

  ports_along : (j : ℕ) (ls : List Leaf)
      → ((i : ℕ) (l : Leaf) → slice_get ls i ≡ Some l → (slice_get all (j + i) ≡ Some l) × LeafNamed l (name_at names (j + i)))
      → along f names j ls ≡ at_numbers f names all (named_ports j ls)
  ports_along j [] h = refl
  ports_along j (l ∷ ls) h =
      let start : j + 0 ≡ j = omega arith in
      let first = h zero l refl in
      let at : slice_get all j ≡ Some l = rw start at first.0 in
      let named : LeafNamed l (name_at names j) = rw start at first.1 in
      let rest = ports_along (j + 1) ls (λ i m e. let place : j + suc i ≡ j + 1 + i = omega arith in rw place at (h (suc i) m e)) in
      let split = flat_map-append (at_number f names all) (port_number l.role l.width j) (named_ports (j + 1) ls) in
      ap (λ xs. f l (name_at names j) ++ xs) rest ∙ ap (λ xs. xs ++ at_numbers f names all (named_ports (j + 1) ls)) (here at named) ∙ sym split
    where
      here : slice_get all j ≡ Some l → LeafNamed l (name_at names j) → f l (name_at names j) ≡ at_numbers f names all (port_number l.role l.width j)
      here at named = by (is_port l.role && not (nat_eq l.width 0)) refl
        where
          by : (b : Bool) → (is_port l.role && not (nat_eq l.width 0)) ≡ b
              → f l (name_at names j) ≡ at_numbers f names all (port_number l.role l.width j)
          by true e = let given = number_given l.role l.width j e in rw (given, at) (sym (append-nil (f l (name_at names j))))
          by false e = let lacking = number_lacking l.role l.width j e in rw lacking (unnamed_gives l (name_at names j) named e)

name_below : (names : NameList) (k : ℕ) (name : List ℕ) → name_at names k ≡ Some name → k < length names
name_below [] k name e = absurd (cc)
name_below (n ∷ names) zero name e = omega arith
name_below (n ∷ names) (suc k) name e = omega (arith, name_below names k name e)

no_port : (r : Role) → is_state r ≡ true → is_port r ≡ false
no_port (role.Register d) e = refl
no_port (role.Pipe q) e = refl
no_port _ e = absurd (cc)

inner_same : (taken others : List (List ℕ)) → ((x : List ℕ) → is_among taken x ≡ is_among others x) → (from to : ℕ) (names : List (List ℕ))
    → AreInnerTo taken from names to → AreInnerTo others from names to
inner_same taken others same from to [] h = h
inner_same taken others same from to (name ∷ names) h = (
  h.0,
  record {
    low = h.1.low;
    free = sym (free (inner_name h.0)) ∙ h.1.free;
    before = λ k low high. sym (free (inner_name k)) ∙ h.1.before k low high;
  },
  h.2,
  inner_same taken others same (h.0 + 1) to names h.3,
)
  where
    free : (x : List ℕ) → is_free taken x ≡ is_free others x
    free x = ap (λ (b : Bool). not (is_reserved x) && not b) (same x)

module _ (net : FlatNet) (t : NameTable) (whole : IsNet net) (table : IsTable net t) where
  all_have : HaveLeaves net.leaves (named_leaves net)
  all_have = record { each = named_leaf net whole }

  word_inside : (k : ℕ) → In net.state k → (l : Leaf) × (slice_get net.leaves k ≡ Some l) × (is_port l.role ≡ false)
  word_inside k m =
      let word = word_leaf net whole k m in
      (word.0, word.1, no_port word.0.role (and_parts (is_state word.0.role) (not (nat_eq word.0.width 0)) word.2).0)

  port_first : (k : ℕ) → In (named_ports 0 net.leaves) k → (l : Leaf) × (slice_get net.leaves k ≡ Some l) × (is_port l.role ≡ true)
  port_first k m = let port = port_at net.leaves k m in (port.leaf, port.at, port.port)

  -- what ports give along the leaves, and what words give in the order of the state
  pub port_given : {B : Type 0} → (f : Leaf → Option (List ℕ) → List B) → OfPorts f
      → along f t.leaves 0 net.leaves ≡ zipped f (ordered_names net t) (ordered_leaves net)
  unfolding ordered_names ordered_leaves
  port_given {B} f of =
      let ports = named_ports 0 net.leaves in
      let none : at_numbers f t.leaves net.leaves net.state ≡ [] =
      none_at f t.leaves net.leaves net.state
      (λ k m. let word = word_inside k m in let here : slice_get net.leaves k ≡ Some word.0 = word.1 in rw here (of.inside word.0 (name_at t.leaves k) word.2)) in
      ports_along f of t.leaves net.leaves 0 net.leaves
      (λ i l at. let start : 0 + i ≡ i = omega arith in rw start (at, leaf_named net whole t table i l at))
      ∙ sym (flat_map-append (at_number f t.leaves net.leaves) ports net.state ∙ ap (λ (xs : List B). at_numbers f t.leaves net.leaves ports ++ xs) none
      ∙ append-nil (at_numbers f t.leaves net.leaves ports))
      ∙ numbers_zipped net.leaves t.leaves f (named_leaves net) all_have

  pub word_given : {B : Type 0} → (f : Leaf → Option (List ℕ) → List B) → OfWords f
      → at_numbers f t.leaves net.leaves net.state ≡ zipped f (ordered_names net t) (ordered_leaves net)
  unfolding ordered_names ordered_leaves
  word_given {B} f of =
      let ports = named_ports 0 net.leaves in
      let none : at_numbers f t.leaves net.leaves ports ≡ [] =
      none_at f t.leaves net.leaves ports
      (λ k m. let port = port_first k m in let here : slice_get net.leaves k ≡ Some port.0 = port.1 in rw here (of.ports port.0 (name_at t.leaves k) port.2)) in
      sym (flat_map-append (at_number f t.leaves net.leaves) ports net.state
      ∙ ap (λ (xs : List B). xs ++ at_numbers f t.leaves net.leaves net.state) none)
      ∙ numbers_zipped net.leaves t.leaves f (named_leaves net) all_have

  pub same_ports : {B : Type 0} → (f : Leaf → Option (List ℕ) → List B) → OfPorts f
      → zipped f (ordered_names net t) (ordered_leaves net) ≡ zipped f t.leaves net.leaves
  same_ports f of = sym (port_given f of) ∙ along_zipped LeafNamed f t.leaves net.leaves (leaves_named net whole t table)

  pub ordered_first : ArePortsFirst (ordered_leaves net)
  unfolding ordered_leaves
  ordered_first =
      numbers_first net.leaves (named_ports 0 net.leaves) net.state port_first (numbers_inside net.leaves net.state word_inside)

  pub ordered_each : (P : Leaf → Option (List ℕ) → Type 0) → ((k : ℕ) (l : Leaf) → slice_get net.leaves k ≡ Some l → P l (name_at t.leaves k))
      → Each P (ordered_names net t) (ordered_leaves net)
  unfolding ordered_names ordered_leaves
  ordered_each P h = numbers_each net.leaves t.leaves P (named_leaves net) all_have (λ k l m at. h k l at)

  pub ordered_named : Each LeafNamed (ordered_names net t) (ordered_leaves net)
  ordered_named = ordered_each LeafNamed (leaf_named net whole t table)

  pub ordered_whole : Each (Whole net) (ordered_names net t) (ordered_leaves net)
  ordered_whole =
      ordered_each (Whole net)
      (λ k l at. (leaf_named net whole t table k l at, all_there (IsLeaf net.leaves net.nodes) net.leaves whole.leaves k l at))

  -- where a leaf that has a name stands
  pub record HasPlace (l : Leaf) (name : List ℕ) : Type 0 where
    pub place : ℕ
    pub leaf : slice_get (ordered_leaves net) place ≡ Some l
    pub named : name_at (ordered_names net t) place ≡ Some name

  named_has : (l : Leaf) (n : Option (List ℕ)) (name : List ℕ) → n ≡ Some name → LeafNamed l n → has_name l ≡ true
  named_has l None name e h = absurd (cc)
  named_has l (Some other) name e h = h

  pub ordered_place : (k : ℕ) (l : Leaf) (name : List ℕ) → slice_get net.leaves k ≡ Some l → name_at t.leaves k ≡ Some name → HasPlace l name
  unfolding ordered_names ordered_leaves
  ordered_place k l name at named =
      let has = named_has l (name_at t.leaves k) name named (leaf_named net whole t table k l at) in
      let there = number_stands net.leaves t.leaves (named_leaves net) all_have k l (has_number net whole k l at has) at in
      record { place = there.place; leaf = there.leaf; named = there.named ∙ named }

  pub ordered_at : (P : Leaf → Option (List ℕ) → Type 0) → Each P (ordered_names net t) (ordered_leaves net) → (k : ℕ) (l : Leaf) (name : List ℕ)
      → slice_get net.leaves k ≡ Some l → name_at t.leaves k ≡ Some name → P l (Some name)
  ordered_at P h k l name at named =
      let there = ordered_place k l name at named in
      subst (P l) there.named (each_at P (ordered_names net t) (ordered_leaves net) h there.place l there.leaf)

  -- what is of a leaf is of all
  pub ordered_part : {B : Type 0} → (f : Leaf → Option (List ℕ) → List B) (k : ℕ) (l : Leaf) (name : List ℕ) → slice_get net.leaves k ≡ Some l
      → name_at t.leaves k ≡ Some name → (b : B) → In (f l (Some name)) b → In (zipped f (ordered_names net t) (ordered_leaves net)) b
  ordered_part {B} f k l name at named b m =
      let all = zipped f (ordered_names net t) (ordered_leaves net) in
      let Q = λ (x : Leaf) (n : Option (List ℕ)). (y : B) → In (f x n) y → In all y in
      let parts = each_part LeafNamed f all (ordered_names net t) (ordered_leaves net) ordered_named (λ y i. i) in
      ordered_at Q parts k l name at named b m

  pub ordered_picked : (q : Role → Bool) (k : ℕ) (l : Leaf) (name : List ℕ) → slice_get net.leaves k ≡ Some l → q l.role ≡ true
      → name_at t.leaves k ≡ Some name → In (picked q (ordered_names net t) (ordered_leaves net)) name
  ordered_picked q k l name at kind named =
      let there = ordered_place k l name at named in
      picked_at LeafNamed q (ordered_names net t) (ordered_leaves net) ordered_named there.place l name there.leaf kind there.named

  -- the number of the leaf that stands there
  pub ordered_from : (i : ℕ) (l : Leaf) → slice_get (ordered_leaves net) i ≡ Some l
      → (k : ℕ) × (slice_get net.leaves k ≡ Some l) × (name_at t.leaves k ≡ name_at (ordered_names net t) i)
  unfolding ordered_names ordered_leaves
  ordered_from i l at =
      let there = stands_for net.leaves t.leaves (named_leaves net) all_have i l at in (there.number, there.at, there.named)

  -- the names
  pub ordered_all_once : Distinct (ordered_all net t)
  unfolding ordered_names
  ordered_all_once =
      names_distinct [] (map (base_at net) (named_leaves net) ++ map (array_base net) net.array_order)
      (somes (map (name_at t.leaves) (named_leaves net)) ++ somes (map (name_at t.arrays) net.array_order)) table.named

  pub ordered_once : Distinct (somes (ordered_names net t))
  ordered_once = distinct_left (somes (ordered_names net t)) (somes (map (name_at t.arrays) net.array_order)) ordered_all_once

  to_table : (n : List ℕ) → In (somes (ordered_names net t)) n → In (somes t.leaves) n
  unfolding ordered_names
  to_table n m = let r = order_number (name_at t.leaves) (named_leaves net) n m in in_table t.leaves r.0 n r.2

  from_table : (n : List ℕ) → In (somes t.leaves) n → In (somes (ordered_names net t)) n
  unfolding ordered_names
  from_table n m =
      let r = table_number t.leaves n m in
      let count = table.count in
      let l = there net.leaves r.0 (omega (arith, name_below t.leaves r.0 n r.1)) in
      let has = named_has l.0 (name_at t.leaves r.0) n r.1 (leaf_named net whole t table r.0 l.0 l.1) in
      in_order (name_at t.leaves) (named_leaves net) r.0 n (has_number net whole r.0 l.0 l.1 has) r.1

  -- an array that has a name stands in the order
  array_placed : (k : ℕ) (n : List ℕ) → name_at t.arrays k ≡ Some n → In net.array_order k
  array_placed k n named =
      let count = table.array_count in
      let a = there net.arrays k (omega (arith, name_below t.arrays k n named)) in
      by a.0 a.1 (cases_lt a.0.width 1)
    where
      by : (a : Array) → slice_get net.arrays k ≡ Some a → (a.width < 1) ⊎ (1 ≤ a.width) → In net.array_order k
      by a at (inr bits) = let place = whole.array_state.all k a at bits in get_in net.array_order place.0 k place.1
      by a at (inl none) =
          let nameless : name_at t.arrays k ≡ None = table.only_array k outside in
          let bad : Some n ≡ None = sym named ∙ nameless in
          absurd (cc)
        where
          outside : In net.array_order k → ⊥
          outside m =
              let place = number_of net.array_order k m in
              let other = whole.array_state.only place.0 k place.1 in
              let bits : 1 ≤ other.0.width = other.2 in
              let both : Some other.0 ≡ Some a = sym other.1 ∙ at in
              let same : other.0 ≡ a = cc in
              let wide : other.0.width ≡ a.width = ap (λ (x : Array). x.width) same in
              omega arith

  all_to_table : (n : List ℕ) → In (ordered_all net t) n → In (table_names t) n
  all_to_table n m =
      ⊎_elim
      (λ (l : In (somes (ordered_names net t)) n). in_left (somes t.leaves) (somes t.arrays) n (to_table n l))
      (λ (a : In (somes (map (name_at t.arrays) net.array_order)) n).
      let r = order_number (name_at t.arrays) net.array_order n a in
      in_right (somes t.leaves) (somes t.arrays) n (in_table t.arrays r.0 n r.2))
      (in_either (somes (ordered_names net t)) (somes (map (name_at t.arrays) net.array_order)) n m)

  all_from_table : (n : List ℕ) → In (table_names t) n → In (ordered_all net t) n
  all_from_table n m =
      ⊎_elim
      (λ (l : In (somes t.leaves) n). in_left (somes (ordered_names net t)) (somes (map (name_at t.arrays) net.array_order)) n (from_table n l))
      (λ (a : In (somes t.arrays) n).
      let r = table_number t.arrays n a in
      in_right (somes (ordered_names net t)) (somes (map (name_at t.arrays) net.array_order)) n
      (in_order (name_at t.arrays) net.array_order r.0 n (array_placed r.0 n r.1) r.1))
      (in_either (somes t.leaves) (somes t.arrays) n m)

  pub ordered_spelled : AllByRecursion IsName (table_names t) → AllByRecursion IsName (ordered_all net t)
  ordered_spelled h = all_from IsName (ordered_all net t) (λ n m. all_at IsName (table_names t) h n (all_to_table n m))

  pub ordered_inner : (from to : ℕ) (names : List (List ℕ)) → AreInnerTo (table_names t) from names to
      → AreInnerTo (ordered_all net t) from names to
  ordered_inner from to names h =
      inner_same (table_names t) (ordered_all net t) (same_names (table_names t) (ordered_all net t) all_from_table all_to_table) from to names h

module _ (net : FlatNet) (t : NameTable) (p : Places) (order : List Read) (is : Premises net t p order) where
  pub ordered_known : Each (Known net) (ordered_names net t) (ordered_leaves net)
  ordered_known =
      ordered_each net t is.whole is.table (Known net)
      (λ k l at.
      (leaf_named net is.whole t is.table k l at, all_there (IsLeaf net.leaves net.nodes) net.leaves is.whole.leaves k l at, is.writable.leaves k l at))

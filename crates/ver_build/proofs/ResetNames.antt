-- The nets of resets, by their names: the net of a reset is the net of one bit that its condition is all of, or else one of its own.
-- All inner nets, those of the order and behind them those of resets and then of writes, have the inner names from 0 on.
use Rattle.std.proofs.Common.{◌≡◌, ℕ, List, [], ◌++◌, map, flat_map, slice_get, Bool, true, false, ◌&&◌, nat_eq, cond, refl, sym, ap, ◌∙◌, inl, inr, ◌⊎◌, Option, Some, None, unwrap_or}
use Rattle.std.proofs.lemmas.Bool.{and_parts, eqb-true}
use Rattle.std.specs.Option.{is_none, is_some}
use Rattle.std.specs.List.{AllByRecursion}
use Rattle.std.proofs.lemmas.List.{map-append}
use Rattle.fir_base.specs.Lists.{In}
use Rattle.fir_base.proofs.Each.{all_joined}
use Rattle.ver_words.specs.Names.{IsName}
use Rattle.fir_net.specs.declared.reads.Read.{Read}
use Rattle.fir_net.specs.declared.reads.Read.TheVariants as read
use Rattle.fir_net.specs.declared.leaf.Reset.{Reset}
use Rattle.fir_net.specs.declared.net.FlatNet.{FlatNet}
use Rattle.fir_net_names.specs.declared.name_table.NameTable.{NameTable}
use Rattle.fir_net_names.specs.working.LeafNamed.{with_some, name_at}
use Rattle.fir_net_names.specs.working.TableNames.{table_names}
use Rattle.ver_build.specs.declared.held.Source.{Source}
use Rattle.ver_build.specs.declared.held.Source.TheVariants as source
use Rattle.ver_build.specs.declared.places.Places.{Places}
use Rattle.ver_build.specs.working.Places.{AreInnerTo, bit_net, held_of, inner_names, leaf_needs, needs_net, role_needs, reset_names, along_writes, array_guard_names, array_writes, guard_at, guard_names, leaf_names_at, node_at, read_names, role_names}
use Rattle.ver_build.specs.working.Blocks.{leaf_net, own_net, reset_net}
use Rattle.ver_build.specs.working.Built.{at_number, inners, order_inners, reset_inners, late_inners, leaf_inners, read_inners, role_inners}
use Rattle.ver_build.proofs.Lists.{flat_mapped, flat_same}
use Rattle.ver_build.proofs.Walk.{joined_to}
use Rattle.ver_build.proofs.Premises.{Premises}
use Rattle.ver_build.proofs.Words.{IsWord, word_at, net_is}
use Rattle.ver_build.proofs.Nets.{inner_name}
use Rattle.ver_build.proofs.NodeNets.{order_named}
use Rattle.fir_net.specs.declared.array.Array.{Array}
use Rattle.fir_net.specs.declared.array.ArrayWrite.{ArrayWrite}
use Rattle.fir_net.specs.declared.leaf.Role.{Role}
use Rattle.fir_net.specs.declared.leaf.Role.TheVariants as role
use Rattle.fir_net.specs.declared.leaf.Leaf.{Leaf}
use Rattle.ver_build.specs.declared.places.Guard.{Guard}
use Rattle.ver_build.specs.working.ArrayBlocks.{array_write_inners, guarded_write, write_inners}
use Rattle.ver_build.proofs.ReadingNets.{array_inners_named}
use Rattle.ver_build.proofs.WriteLists.{writes_mapped}

none_is : {A : Type 0} → (o : Option A) → is_some o ≡ false → o ≡ None
none_is None e = refl
none_is (Some x) e = absurd (cc)

some_is : {A : Type 0} → (o : Option A) → is_some o ≡ true → (x : A) × (o ≡ Some x)
some_is None e = absurd (cc)
some_is (Some x) e = (x, refl)

-- what is all of a net of one bit
pub bit_source : (s : Source) (name : List ℕ) → bit_net s ≡ Some name → s ≡ source.Net (record { name = name; own = 1; kept = 1 })
bit_source (source.Number n) name e = absurd (cc)
bit_source (source.Net q) name e = by (nat_eq q.own 1 && nat_eq q.kept 1) refl e
  where
    part_of : List ℕ → ℕ → ℕ → Source
    part_of n own kept = source.Net (record { name = n; own = own; kept = kept })

    by : (b : Bool) → (nat_eq q.own 1 && nat_eq q.kept 1) ≡ b → cond b (Some q.name) None ≡ Some name
        → source.Net q ≡ source.Net (record { name = name; own = 1; kept = 1 })
    by false t n = absurd (cc)
    by true t n =
        let same : q.name ≡ name = cc in
        let ones = and_parts (nat_eq q.own 1) (nat_eq q.kept 1) t in
        ap (λ (x : List ℕ). part_of x q.own q.kept) same ∙ ap (λ (x : ℕ). part_of name x q.kept) (eqb-true _ _ ones.0)
        ∙ ap (part_of name 1) (eqb-true _ _ ones.1)

-- a reset whose condition is all of a net of one bit
pub record IsBit (p : Places) (k : ℕ) (r : Reset) : Type 0 where
  pub name : List ℕ
  pub all_of : bit_net (held_of p r.condition).source ≡ Some name
  pub is : reset_net p k r ≡ name

-- one with a net of its own
pub record HasNet (p : Places) (k : ℕ) (r : Reset) : Type 0 where
  pub name : List ℕ
  pub named : name_at p.resets k ≡ Some name
  pub is : reset_net p k r ≡ name

module _ (net : FlatNet) (t : NameTable) (p : Places) (order : List Read) (is : Premises net t p order) where
  needs_is : (k : ℕ) → In net.state k → (w : IsWord net t k) → is_some (name_at p.resets k) ≡ needs_net p.leaves p.nodes w.own.reset
  needs_is k m w =
      is.places.resets.each k m ∙ ap (leaf_needs p.leaves p.nodes) w.at ∙ ap (role_needs p.leaves p.nodes) w.register

  pub reset_view : (k : ℕ) → In net.state k → (w : IsWord net t k) → (r : Reset) → w.own.reset ≡ Some r → IsBit p k r ⊎ HasNet p k r
  reset_view k m w r has = by (bit_net (held_of p r.condition).source) refl
    where
      by : (o : Option (List ℕ)) → bit_net (held_of p r.condition).source ≡ o → IsBit p k r ⊎ HasNet p k r
      by (Some name) e = inl (record { name = name; all_of = e; is = ap (λ o. unwrap_or o (unwrap_or (name_at p.resets k) [])) e })
      by None e =
          let needs = needs_is k m w ∙ ap (needs_net p.leaves p.nodes) has ∙ ap is_none e in
          let own = some_is (name_at p.resets k) needs in
          inr (record {
            name = own.0;
            named = own.1;
            is = ap (λ o. unwrap_or o (unwrap_or (name_at p.resets k) [])) e ∙ ap (λ o. unwrap_or o []) own.1;
          })

  one_named : (reset : Option Reset) (n : Option (List ℕ)) → is_some n ≡ needs_net p.leaves p.nodes reset
      → map inner_name (own_net p reset n) ≡ with_some n []
  one_named None n e = sym (ap (λ o. with_some o []) (none_is n e))
  one_named (Some r) None e = refl
  one_named (Some r) (Some name) e = refl

  resets_named : map inner_name (reset_inners net p) ≡ reset_names p.resets net.state
  resets_named =
      flat_mapped inner_name (at_number (leaf_net p) p.resets net.leaves) (λ (k : ℕ). map inner_name (at_number (leaf_net p) p.resets net.leaves k))
      (λ k. refl) net.state
      ∙ flat_same (λ (k : ℕ). map inner_name (at_number (leaf_net p) p.resets net.leaves k)) (λ (k : ℕ). with_some (name_at p.resets k) []) net.state
      (λ k m.
      let w = word_at net t is.whole is.table is.pipes k m in
      ap (map inner_name) (net_is net t p k w) ∙ one_named w.own.reset (name_at p.resets k) (needs_is k m w))

  -- the nets of what leaves read of arrays
  leaf_named : (k : ℕ) → map inner_name (read_inners net t p (read.Leaf k)) ≡ read_names net p.nodes p.readings (read.Leaf k)
  leaf_named k = by (slice_get net.leaves k) refl
    where
      of_role : (l : Leaf) (d : Role) → slice_get net.leaves k ≡ Some l → l.role ≡ d
          → map inner_name (role_inners net t p l.width d (node_at p.readings k)) ≡ role_names d (node_at p.readings k)
      of_role l (role.Reading r) there same =
          array_inners_named net t p l.signed l.width r (node_at p.readings k) (is.places.nodes.read.each k l r there same)
      of_role l _ there same = refl

      by : (o : Option Leaf) → slice_get net.leaves k ≡ o
          → map inner_name (leaf_inners net t p o (node_at p.readings k)) ≡ leaf_names_at o (node_at p.readings k)
      by None e = refl
      by (Some l) e = of_role l l.role e refl

  -- those of writes
  write_named : (words : ℕ) (w : ArrayWrite) (g : Option Guard) → map inner_name (guarded_write net p words w g) ≡ guard_names g
  write_named words w None = refl
  write_named words w (Some g) = refl

  array_named : (k : ℕ) (o : Option Array)
      → map inner_name (array_write_inners net p k o) ≡ along_writes (λ j w. guard_names (guard_at p.guards k j)) 0 (array_writes o)
  array_named k None = refl
  array_named k (Some a) =
      writes_mapped inner_name (λ j w. guarded_write net p a.words w (guard_at p.guards k j)) (λ j w. guard_names (guard_at p.guards k j))
      (λ j w. write_named a.words w (guard_at p.guards k j)) 0 a.writes

  writes_named : map inner_name (write_inners net p) ≡ flat_map (array_guard_names net p.guards) net.array_order
  writes_named =
      flat_mapped inner_name (λ (k : ℕ). array_write_inners net p k (slice_get net.arrays k)) (array_guard_names net p.guards)
      (λ k. array_named k (slice_get net.arrays k)) net.array_order

  -- the names of nets that stand behind those of the order
  abbrev late_names : List (List ℕ)
  late_names = reset_names p.resets net.state ++ flat_map (array_guard_names net p.guards) net.array_order

  late_named : map inner_name (late_inners net p) ≡ reset_names p.resets net.state ++ flat_map (array_guard_names net p.guards) net.array_order
  late_named =
      map-append inner_name (reset_inners net p) (write_inners net p)
      ∙ ap (λ (xs : List (List ℕ)). xs ++ map inner_name (write_inners net p)) resets_named
      ∙ ap (λ (xs : List (List ℕ)). reset_names p.resets net.state ++ xs) writes_named

  pub inners_named : map inner_name (inners net t p order)
      ≡ inner_names net p.nodes p.readings order ++ (reset_names p.resets net.state ++ flat_map (array_guard_names net p.guards) net.array_order)
  inners_named =
      map-append inner_name (order_inners net t p order) (late_inners net p)
      ∙ ap (λ (xs : List (List ℕ)). xs ++ map inner_name (late_inners net p)) (order_named net t p is.places.nodes.held leaf_named order)
      ∙ ap (λ (xs : List (List ℕ)). inner_names net p.nodes p.readings order ++ xs) late_named

  -- they are the inner ones
  pub inners_numbered : AreInnerTo (table_names t) 0 (map inner_name (inners net t p order)) is.places.guards.last
  inners_numbered =
      rw inners_named
      (joined_to (table_names t) (inner_names net p.nodes p.readings order) late_names 0 is.places.last is.places.guards.last is.places.nodes.named
      (joined_to (table_names t) (reset_names p.resets net.state) (flat_map (array_guard_names net p.guards) net.array_order) is.places.last
      is.places.resets.last is.places.guards.last is.places.resets.named is.places.guards.named))

  pub inners_spelled : AllByRecursion IsName (map inner_name (inners net t p order))
  inners_spelled =
      rw inners_named
      (all_joined IsName (inner_names net p.nodes p.readings order) late_names is.places.nodes.spelled
      (all_joined IsName (reset_names p.resets net.state) (flat_map (array_guard_names net p.guards) net.array_order) is.places.resets.spelled
      is.places.guards.spelled))

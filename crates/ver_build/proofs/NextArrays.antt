-- The arrays after a tick: where the values of a net and of its tree agree, what the block of an array writes leaves what the net leaves, and no write is out of
-- range.
use Rattle.std.proofs.Common.{◌≡◌, ℕ, zero, suc, ◌+◌, ◌^◌, ◌<◌, ◌≤◌, List, [], ◌∷◌, ◌++◌, length, map, flat_map, Bool, true, false, not, ◌&&◌, ◌==◌, nat_eq, nat_lt, if◌then◌else◌, refl, sym, ap, ◌∙◌, subst, arith, Option, Some, None, unwrap_or, get_or}
use Rattle.std.specs.Prelude.{slice_get, slice_set}
use Rattle.std.specs.Option.{is_some}
use Rattle.std.specs.List.{list_all}
use Rattle.std.proofs.lemmas.Bool.{cond_both, eqb-true, eqb-false, leb-true, lt-ltb, ltb-false}
use Rattle.std.proofs.lemmas.List.{get_or-set_other, get_or-set_same, length-set}
use Rattle.std.proofs.lemmas.List.Concat.{flat_map-append}
use Rattle.std.proofs.lemmas.List.Folds.{list_all-append}
use Rattle.std.proofs.lemmas.Option.{get_or_from_slice_get, slice_get-get_or}
use Rattle.fir_base.specs.Lists.{In}
use Rattle.fir_base.specs.Ticks.{Env, Tick, rises}
use Rattle.fir_base.proofs.SameNames.{name_same}
use Rattle.fir_net.specs.declared.array.ArrayWrite.{ArrayWrite}
use Rattle.fir_net.specs.declared.leaf.Leaf.{Leaf}
use Rattle.fir_net.specs.declared.reads.Read.{Read}
use Rattle.fir_net.specs.declared.net.FlatNet.{FlatNet}
use Rattle.fir_net.specs.working.Arrays.{addresses, begin_of, word_in}
use Rattle.fir_net.specs.working.IsNet.{CanRead}
use Rattle.fir_net.specs.working.Next.{array_after, arrays_next, is_written, ticks, word_after}
use Rattle.fir_net.specs.working.Settled.{is_clock, is_high, value_at}
use Rattle.fir_net.specs.working.Values.{at_width}
use Rattle.fir_net_names.specs.declared.name_table.NameTable.{NameTable}
use Rattle.fir_net_names.specs.working.LeafNamed.{name_at}
use Rattle.ver_ast.specs.declared.tree.Verilog.{Verilog}
use Rattle.ver_ast.specs.declared.tree.Write.{Write}
use Rattle.ver_ast.specs.Atoms.{AtomTree}
use Rattle.ver_ast.specs.AtomValues.{atom_value}
use Rattle.ver_ast.specs.Nets.{SizedNet, AlwaysBlock, nets, variables}
use Rattle.ver_ast.specs.Next.{Put, is_within, put_all, write_put}
use Rattle.ver_ast.specs.Settled.{Rest}
use Rattle.ver_ast.specs.Stores.{Store, store_of}
use Rattle.ver_build.specs.declared.places.Guard.{Guard}
use Rattle.ver_build.specs.declared.places.Places.{Places}
use Rattle.ver_build.specs.working.ArrayBlocks.{block_of, clocked_writes, first_clock, written, written_on}
use Rattle.ver_build.specs.working.ArrayTexts.{always_within, write_condition}
use Rattle.ver_build.specs.working.Operands.{atom_at}
use Rattle.ver_build.specs.working.Places.{along_writes, clock_in, guard_at, held_of, needs_guard, read_width}
use Rattle.ver_build.proofs.Premises.{Premises}
use Rattle.ver_build.proofs.Parts.{in_parts}
use Rattle.ver_build.proofs.Nets.{sizes, nets_sized}
use Rattle.ver_build.proofs.Lists.{flat_same}
use Rattle.ver_build.proofs.Written.{all_written}
use Rattle.ver_build.proofs.ArrayPuts.{put_behind}
use Rattle.ver_build.proofs.StateArrays.{IsStateArray, array_at, array_name, name_is, words_are, write_at}
use Rattle.ver_build.proofs.ArrayWords.{array_long, array_word, regs_once}
use Rattle.ver_build.proofs.WritingBlocks.{array_block_is, first_write, no_write, one_clock}
use Rattle.ver_build.proofs.WordsWritten.{own_puts}
use Rattle.ver_build.proofs.NodeValues.{leaf_values}
use Rattle.ver_build.proofs.ReadValues.{address_below, address_value, condition_value, guard_value}
use Rattle.ver_build.proofs.NextStates.{shown_clock}
use Rattle.ver_build.proofs.NetSettled.{source_value}

-- a list that is given by its places
listed : (xs : List ℕ) (g : ℕ → ℕ) (from n : ℕ) → length xs ≡ n → ((i : ℕ) → i < n → slice_get xs i ≡ Some (g (from + i))) → xs ≡ map g (addresses from n)
unfolding addresses
listed [] g from zero long at = refl
listed (x ∷ xs) g from zero long at = absurd (omega arith)
listed [] g from (suc n) long at = absurd (omega arith)
listed (x ∷ xs) g from (suc n) long at =
    let start : from + 0 ≡ from = omega arith in
    let first = at 0 (omega arith) in
    let here : x ≡ g (from + 0) = cc in
    let rest =
    listed xs g (from + 1) n (omega (arith, long))
    (λ i less. let e : from + suc i ≡ from + 1 + i = omega arith in at (suc i) (omega (arith, less)) ∙ ap (λ (j : ℕ). Some (g j)) e) in
    ap (λ (y : ℕ). y ∷ xs) (here ∙ ap g start) ∙ ap (λ (ys : List ℕ). g from ∷ ys) rest

-- a word of a list of which one is replaced
set_at : (xs : List ℕ) (a i g x : ℕ) → i < length xs → slice_get xs i ≡ Some x → slice_get (slice_set xs a g) i ≡ Some (if nat_eq a i then g else x)
set_at xs a i g x less at =
    let long : i < length (slice_set xs a g) = omega (arith, length-set xs a g, less) in
    slice_get-get_or (slice_set xs a g) i 0 long
    ∙ ap Some
    (cond_both (nat_eq a i) g x (λ (y : ℕ). get_or (slice_set xs a g) i 0 ≡ y)
    (λ t. let same : a ≡ i = eqb-true a i t in subst (λ (j : ℕ). get_or (slice_set xs j g) i 0 ≡ g) (sym same) (get_or-set_same xs i g 0 less))
    (λ t. get_or-set_other xs a i g 0 (λ e. eqb-false a i t (sym e)) ∙ get_or_from_slice_get xs i x 0 at))

-- where a condition holds and the place is within
chosen : (xs : List ℕ) (many a i g x : ℕ) (c d : Bool) → length xs ≡ many → i < many → slice_get xs i ≡ Some x → nat_lt a many ≡ d
    → slice_get (if c && d then slice_set xs a g else xs) i ≡ Some (if c && nat_eq a i then g else x)
chosen xs many a i g x false d long less at within = at
chosen xs many a i g x true true long less at within = set_at xs a i g x (omega (arith, long, less)) at
chosen xs many a i g x true false long less at within =
    let past : many ≤ a = ltb-false a many within in
    at ∙ ap Some (cond_both (nat_eq a i) g x (λ (y : ℕ). x ≡ y) (λ t. let same : a ≡ i = eqb-true a i t in absurd (omega (arith, past, less, same))) (λ t. refl))

chosen_long : (xs : List ℕ) (a g : ℕ) (b : Bool) → length (if b then slice_set xs a g else xs) ≡ length xs
chosen_long xs a g true = length-set xs a g
chosen_long xs a g false = refl

both_true : (b : Bool) → (b && true) ≡ b
both_true true = refl
both_true false = refl

-- one write to a name, where its condition is 1
put_test : (b : Bool) (q : Put) (s : Store) → put_all ((if b then (q ∷ []) else []) ++ []) s q.name ≡ (if b then slice_set (s q.name) q.place q.word else s q.name)
put_test true q s = ap (λ (t : Bool). if t then slice_set (s q.name) q.place q.word else s q.name) (name_same q.name)
put_test false q s = refl

within_test : (b : Bool) (q : Put) (s : Store) (many : ℕ) → length (s q.name) ≡ many → (b ≡ true → nat_lt q.place many ≡ true)
    → list_all (is_within s) ((if b then (q ∷ []) else []) ++ []) ≡ true
within_test false q s many long h = refl
within_test true q s many long h = let within = ap (nat_lt q.place) long ∙ h refl in rw within refl

second_true : (b c : Bool) → (b && c) ≡ true → c ≡ true
second_true true c e = e
second_true false c e = absurd (cc)

module _ (net : FlatNet) (t : NameTable) (p : Places) (order : List Read) (is : Premises net t p order) (state : List ℕ) (tick : Tick) (f : Env)
    (rest : Rest (in_parts net t p order) state tick f) (e : ℕ → ℕ) (clock : ℕ → Option ℕ)
    (values : (r : Read) → CanRead net.leaves net.nodes r → value_at net e r ≡ value_at net (leaf_values p f) r)
    (clocks : (k : ℕ) (l : Leaf) → slice_get net.leaves k ≡ Some l → is_clock l.role ≡ true → clock k ≡ shown_clock t f (clock_in p.leaves k)) where
  abbrev v : Verilog
  v = in_parts net t p order

  abbrev ns : List SizedNet
  ns = nets (in_parts net t p order)

  abbrev named : List ℕ
  named = tick.clocks

  abbrev store : Store
  store = store_of (variables (in_parts net t p order)) state

  in_nets : (a : AtomTree) → atom_value ns f a ≡ atom_value (sizes net t p order) f a
  in_nets a = ap (λ (ss : List SizedNet). atom_value ss f a) (nets_sized net t p order is)

  -- what writes that do not act leave
  still : (width : ℕ) (ws : List ArrayWrite) (address word : ℕ) → ((j : ℕ) (w : ArrayWrite) → slice_get ws j ≡ Some w → ticks named (clock w.clock) ≡ false)
      → word_after net e clock named width ws address word ≡ word
  still width [] address word h = refl
  still width (w ∷ ws) address word h =
      ap (λ (b : Bool). word_after net e clock named width ws address
      (if b && (is_high net e w.condition && nat_eq (value_at net e w.address).value.number address) then at_width (value_at net e w.given) width else word))
      (h 0 w refl)
      ∙ still width ws address word (λ j u at. h (suc j) u at)

  module _ (k : ℕ) (m : In net.array_order k) (a : IsStateArray net t k) where
    clock_of : (j : ℕ) (w : ArrayWrite) → slice_get a.array.writes j ≡ Some w → clock w.clock ≡ shown_clock t f (clock_in p.leaves w.clock)
    clock_of j w at = let c = (write_at net t k a j w at).clock in clocks w.clock c.0 c.1 c.2

    abbrev of_write : ArrayWrite → ℕ → List Write
    of_write w j = written_on net p a.name a.array.width (clock_in p.leaves w.clock) w (guard_at p.guards k j)

    abbrev made : ℕ → List ArrayWrite → List Write
    made n ws = along_writes (λ j w. written_on net p a.name a.array.width (clock_in p.leaves w.clock) w (guard_at p.guards k j)) n ws

    -- a write on a clock
    module _ (j : ℕ) (w : ArrayWrite) (at : slice_get a.array.writes j ≡ Some w) where
      abbrev high : ℕ
      high = (value_at net (leaf_values p f) w.condition).value.number

      abbrev place : ℕ
      place = (value_at net (leaf_values p f) w.address).value.number

      abbrev word : ℕ
      word = at_width (value_at net (leaf_values p f) w.given) a.array.width

      abbrev made_write : Write
      made_write = written net p a.name a.array.width w (guard_at p.guards k j)

      condition_is : (c : ℕ) → clock_in p.leaves w.clock ≡ Some c → (o : Option Guard) → guard_at p.guards k j ≡ o
          → (atom_value ns f (write_condition (held_of p w.condition) o) == 1) ≡ ((high == 1) && nat_lt place a.array.words)
      condition_is c on None has =
          let always = always_within (read_width net w.address) a.array.words in
          let needs : false ≡ needs_guard net p.leaves a.array.words w = sym (ap is_some has) ∙ is.places.guards.each k a.array j w m a.at at in
          let free : not always ≡ false = sym (needs ∙ ap (λ (o : Option ℕ). is_some o && not always) on) in
          let fit : 2 ^ read_width net w.address ≤ a.array.words = leb-true _ _ (not_false always free) in
          let low = address_below net t p order is state tick f rest k m a j w at in
          let within : nat_lt place a.array.words ≡ true = lt-ltb place a.array.words (omega (arith, fit, low)) in
          ap (λ (x : ℕ). x == 1) (in_nets (atom_at 1 (held_of p w.condition)) ∙ condition_value net t p order is state tick f rest k m a j w at)
          ∙ sym (ap (λ (b : Bool). (high == 1) && b) within ∙ both_true (high == 1))
        where
          not_false : (b : Bool) → not b ≡ false → b ≡ true
          not_false true h = refl
          not_false false h = absurd (cc)
      condition_is c on (Some g) has = guard_value net t p order is state tick f rest k m a j w at g has

      index_is : atom_value ns f made_write.index ≡ place
      index_is = in_nets (atom_at (read_width net w.address) (held_of p w.address)) ∙ address_value net t p order is state tick f rest k m a j w at

      source_is : atom_value ns f made_write.source ≡ word
      source_is =
          let some = a.some in
          in_nets (atom_at a.array.width (held_of p w.given))
          ∙ source_value net t p order is state tick f rest w.given (write_at net t k a j w at).given a.array.width some a.whole.narrow

      abbrev test : Bool
      test = atom_value ns f made_write.condition == 1

      abbrev own_put : Put
      own_put = record { name = a.name; place = atom_value ns f made_write.index; word = atom_value ns f made_write.source }

      -- what it leaves
      left_is : (c : ℕ) → clock_in p.leaves w.clock ≡ Some c → (s : Store)
          → put_all (flat_map (write_put ns f) (made_write ∷ [])) s a.name
          ≡ (if (high == 1) && nat_lt place a.array.words then slice_set (s a.name) place word else s a.name)
      left_is c on s =
          put_test test own_put s
          ∙ ap (λ (x : ℕ). if test then slice_set (s a.name) x (atom_value ns f made_write.source) else s a.name) index_is
          ∙ ap (λ (x : ℕ). if test then slice_set (s a.name) place x else s a.name) source_is
          ∙ ap (λ (b : Bool). if b then slice_set (s a.name) place word else s a.name) (condition_is c on (guard_at p.guards k j) refl)

      -- and that it is within the array
      within_is : (c : ℕ) → clock_in p.leaves w.clock ≡ Some c → (s : Store) → length (s a.name) ≡ a.array.words
          → list_all (is_within s) (flat_map (write_put ns f) (made_write ∷ [])) ≡ true
      within_is c on s long =
          within_test test own_put s a.array.words long
          (λ high_is. ap (λ (x : ℕ). nat_lt x a.array.words) index_is
          ∙ second_true (high == 1) (nat_lt place a.array.words) (sym (condition_is c on (guard_at p.guards k j) refl) ∙ high_is))

      written_is : (i : ℕ) → is_written net e clock named w i ≡ (ticks named (clock w.clock) && ((high == 1) && nat_eq place i))
      written_is i =
          let addressed = (write_at net t k a j w at).addressed in
          ap (λ x. ticks named (clock w.clock) && (nat_eq x.value.number 1 && nat_eq (value_at net e w.address).value.number i)) (values w.condition addressed.enable)
          ∙ ap (λ x. ticks named (clock w.clock) && ((high == 1) && nat_eq x.value.number i)) (values w.address addressed.address)

      given_is : at_width (value_at net e w.given) a.array.width ≡ word
      given_is = ap (λ x. at_width x a.array.width) (values w.given (write_at net t k a j w at).given)

    -- the writes from one on, where those that are on a clock act
    record Left (n : ℕ) (ws : List ArrayWrite) (s : Store) : Type 0 where
      long : length (put_all (flat_map (write_put ns f) (made n ws)) s a.name) ≡ a.array.words
      each : (i x : ℕ) → i < a.array.words → slice_get (s a.name) i ≡ Some x
          → slice_get (put_all (flat_map (write_put ns f) (made n ws)) s a.name) i ≡ Some (word_after net e clock named a.array.width ws i x)

    one_left : (j : ℕ) (w : ArrayWrite) → slice_get a.array.writes j ≡ Some w → (o : Option ℕ) → clock_in p.leaves w.clock ≡ o
        → ((c : ℕ) → o ≡ Some c → ticks named (clock w.clock) ≡ true) → (s : Store) → length (s a.name) ≡ a.array.words → (i x : ℕ) → i < a.array.words
        → slice_get (s a.name) i ≡ Some x
        → (length (put_all (flat_map (write_put ns f) (written_on net p a.name a.array.width o w (guard_at p.guards k j))) s a.name) ≡ a.array.words)
        × (slice_get (put_all (flat_map (write_put ns f) (written_on net p a.name a.array.width o w (guard_at p.guards k j))) s a.name) i
        ≡ Some (if is_written net e clock named w i then at_width (value_at net e w.given) a.array.width else x))
    one_left j w at None on acts s long i x less here =
        let none : clock w.clock ≡ None = clock_of j w at ∙ ap (shown_clock t f) on in
        let idle : is_written net e clock named w i ≡ false =
        ap (λ (o : Option ℕ). ticks named o && (is_high net e w.condition && nat_eq (value_at net e w.address).value.number i)) none in
        (long, here ∙ ap Some (sym (ap (λ (b : Bool). if b then at_width (value_at net e w.given) a.array.width else x) idle)))
    one_left j w at (Some c) on acts s long i x less here =
        let left = left_is j w at c on s in
        let number = word j w at in
        let spot = place j w at in
        let test = ((high j w at) == 1) && nat_lt spot a.array.words in
        let is_it : is_written net e clock named w i ≡ (((high j w at) == 1) && nat_eq spot i) =
        written_is j w at i ∙ ap (λ (b : Bool). b && (((high j w at) == 1) && nat_eq spot i)) (acts c refl) in (
          ap length left ∙ chosen_long (s a.name) spot number test ∙ long,
          ap (λ (xs : List ℕ). slice_get xs i) left
              ∙ chosen (s a.name) a.array.words spot i number x ((high j w at) == 1) (nat_lt spot a.array.words) long less here refl
              ∙ ap Some
              (sym (ap (λ (y : ℕ). if is_written net e clock named w i then y else x) (given_is j w at)
              ∙ ap (λ (b : Bool). if b then number else x) is_it)),
        )

    module _ (acts : (j : ℕ) (w : ArrayWrite) → slice_get a.array.writes j ≡ Some w → (c : ℕ) → clock_in p.leaves w.clock ≡ Some c → ticks named (clock w.clock) ≡ true) where
      along : (n : ℕ) (ws : List ArrayWrite) → ((j : ℕ) (w : ArrayWrite) → slice_get ws j ≡ Some w → slice_get a.array.writes (n + j) ≡ Some w)
          → (s : Store) → length (s a.name) ≡ a.array.words → Left n ws s
      along n [] there s long = record { long = long; each = λ i x less here. here }
      along n (w ∷ ws) there s long =
          let start : n + 0 ≡ n = omega arith in
          let at : slice_get a.array.writes n ≡ Some w = subst (λ (j : ℕ). slice_get a.array.writes j ≡ Some w) start (there 0 w refl) in
          let first = of_write w n in
          let after = put_all (flat_map (write_put ns f) (of_write w n)) s in
          let one = λ (i x : ℕ) (less : i < a.array.words) (here : slice_get (s a.name) i ≡ Some x).
          one_left n w at (clock_in p.leaves w.clock) refl (λ c on. acts n w at c on) s long i x less here in
          let some = a.whole.has_words in
          let begin = slice_get-get_or (s a.name) 0 0 (omega (arith, long, some)) in
          let rest =
          along (n + 1) ws (λ j u e. let next : n + suc j ≡ n + 1 + j = omega arith in subst (λ (i : ℕ). slice_get a.array.writes i ≡ Some u) next (there (suc j) u e))
          after (one 0 _ (omega (arith, some)) begin).0 in
          let split : put_all (flat_map (write_put ns f) (made n (w ∷ ws))) s a.name ≡ put_all (flat_map (write_put ns f) (made (n + 1) ws)) after a.name =
          ap (λ (ps : List Put). put_all ps s a.name) (flat_map-append (write_put ns f) first (made (n + 1) ws))
          ∙ put_behind (flat_map (write_put ns f) first) (flat_map (write_put ns f) (made (n + 1) ws)) s a.name in
          record {
            long = ap length split ∙ rest.long;
            each = λ i x less here. ap (λ (xs : List ℕ). slice_get xs i) split ∙ rest.each i _ less (one i x less here).1;
          }

    -- all writes are within the array
    one_within : (j : ℕ) (w : ArrayWrite) → slice_get a.array.writes j ≡ Some w → (o : Option ℕ) → clock_in p.leaves w.clock ≡ o → (s : Store)
        → length (s a.name) ≡ a.array.words
        → list_all (is_within s) (flat_map (write_put ns f) (written_on net p a.name a.array.width o w (guard_at p.guards k j))) ≡ true
    one_within j w at None on s long = refl
    one_within j w at (Some c) on s long = within_is j w at c on s long

    writes_within : (n : ℕ) (ws : List ArrayWrite) → ((j : ℕ) (w : ArrayWrite) → slice_get ws j ≡ Some w → slice_get a.array.writes (n + j) ≡ Some w)
        → (s : Store) → length (s a.name) ≡ a.array.words → list_all (is_within s) (flat_map (write_put ns f) (made n ws)) ≡ true
    writes_within n [] there s long = refl
    writes_within n (w ∷ ws) there s long =
        let start : n + 0 ≡ n = omega arith in
        let at : slice_get a.array.writes n ≡ Some w = subst (λ (j : ℕ). slice_get a.array.writes j ≡ Some w) start (there 0 w refl) in
        let first = one_within n w at (clock_in p.leaves w.clock) refl s long in
        let rest =
        writes_within (n + 1) ws (λ j u e. let next : n + suc j ≡ n + 1 + j = omega arith in subst (λ (i : ℕ). slice_get a.array.writes i ≡ Some u) next (there (suc j) u e))
        s long in
        ap (list_all (is_within s)) (flat_map-append (write_put ns f) (of_write w n) (made (n + 1) ws))
        ∙ list_all-append (is_within s) (flat_map (write_put ns f) (of_write w n)) (flat_map (write_put ns f) (made (n + 1) ws)) ∙ rw (first, rest) refl

    abbrev whole_block : Option ℕ → List AlwaysBlock
    whole_block o = block_of t o (clocked_writes net p k a.array a.name)

    -- what the block writes
    puts_by : (b : Bool) (c : ℕ) → rises named (f (unwrap_or (name_at t.leaves c) [])) ≡ b
        → all_written ns f named (whole_block (Some c)) ≡ (if b then flat_map (write_put ns f) (made 0 a.array.writes) ++ [] else [])
    puts_by true c s = rw s refl
    puts_by false c s = rw s refl

    long_here : length (store a.name) ≡ a.array.words
    long_here =
        ap (λ (n : List ℕ). length (store n)) (sym (name_is net t k a)) ∙ array_long net t p order is state rest.begins.shaped.state_fits k m
        ∙ words_are net t k a

    word_here : (i : ℕ) → i < a.array.words → slice_get (store a.name) i ≡ Some (word_in state (begin_of net k) i)
    word_here i less =
        let many = words_are net t k a in
        ap (λ (n : List ℕ). slice_get (store n) i) (sym (name_is net t k a))
        ∙ array_word net t p order is state rest.begins.shaped.state_fits k m i (omega (arith, many, less))

    -- what the net leaves
    abbrev left_by_net : List ℕ
    left_by_net =
        map (λ address. word_after net e clock named a.array.width a.array.writes address (word_in state (begin_of net k) address)) (addresses 0 a.array.words)

    idle : ((j : ℕ) (w : ArrayWrite) → slice_get a.array.writes j ≡ Some w → ticks named (clock w.clock) ≡ false) → store a.name ≡ left_by_net
    idle none =
        listed (store a.name) (λ address. word_after net e clock named a.array.width a.array.writes address (word_in state (begin_of net k) address)) 0 a.array.words
        long_here
        (λ i less.
        let start : i ≡ 0 + i = omega arith in
        word_here i less ∙ ap Some (sym (still a.array.width a.array.writes i (word_in state (begin_of net k) i) none))
        ∙ ap (λ (j : ℕ). Some (word_after net e clock named a.array.width a.array.writes j (word_in state (begin_of net k) j))) start)

    busy : ((j : ℕ) (w : ArrayWrite) → slice_get a.array.writes j ≡ Some w → (c : ℕ) → clock_in p.leaves w.clock ≡ Some c → ticks named (clock w.clock) ≡ true)
        → put_all (flat_map (write_put ns f) (made 0 a.array.writes)) store a.name ≡ left_by_net
    busy acts =
        let left = along acts 0 a.array.writes (λ j w at. let start : 0 + j ≡ j = omega arith in ap (slice_get a.array.writes) start ∙ at) store long_here in
        listed (put_all (flat_map (write_put ns f) (made 0 a.array.writes)) store a.name)
        (λ address. word_after net e clock named a.array.width a.array.writes address (word_in state (begin_of net k) address)) 0 a.array.words left.long
        (λ i less.
        let start : i ≡ 0 + i = omega arith in
        left.each i (word_in state (begin_of net k) i) less (word_here i less)
        ∙ ap (λ (j : ℕ). Some (word_after net e clock named a.array.width a.array.writes j (word_in state (begin_of net k) j))) start)

    -- whether writes act, by the clock of the block
    ticking : (c : ℕ) → first_clock p a.array.writes ≡ Some c → (j : ℕ) (w : ArrayWrite) → slice_get a.array.writes j ≡ Some w → (d : ℕ)
        → clock_in p.leaves w.clock ≡ Some d → ticks named (clock w.clock) ≡ rises named (f (unwrap_or (name_at t.leaves c) []))
    ticking c first j w at d on =
        let u = first_write p a.array.writes c first in
        let same : d ≡ c = one_clock net t p order is k a j u.0 w u.1 at u.2 d c on u.3 in
        ap (ticks named) (clock_of j w at ∙ ap (shown_clock t f) (on ∙ ap Some same))

    silent : (b : Bool) (j : ℕ) (w : ArrayWrite) → slice_get a.array.writes j ≡ Some w → (o : Option ℕ) → clock_in p.leaves w.clock ≡ o
        → ((d : ℕ) → o ≡ Some d → ticks named (clock w.clock) ≡ false) → ticks named (clock w.clock) ≡ false
    silent b j w at None on h = ap (ticks named) (clock_of j w at ∙ ap (shown_clock t f) on)
    silent b j w at (Some d) on h = h d refl

    by_rise : (c : ℕ) → first_clock p a.array.writes ≡ Some c → (b : Bool) → rises named (f (unwrap_or (name_at t.leaves c) [])) ≡ b
        → put_all (if b then flat_map (write_put ns f) (made 0 a.array.writes) ++ [] else []) store a.name ≡ left_by_net
    by_rise c first false r =
        idle (λ j w at. silent false j w at (clock_in p.leaves w.clock) refl (λ d on. ticking c first j w at d on ∙ r))
    by_rise c first true r =
        put_behind (flat_map (write_put ns f) (made 0 a.array.writes)) [] store a.name ∙ busy (λ j w at d on. ticking c first j w at d on ∙ r)

    by_clock : (o : Option ℕ) → first_clock p a.array.writes ≡ o → put_all (all_written ns f named (whole_block o)) store a.name ≡ left_by_net
    by_clock None first =
        idle (λ j w at. ap (ticks named) (clock_of j w at ∙ ap (shown_clock t f) (no_write p a.array.writes first j w at)))
    by_clock (Some c) first =
        ap (λ (ps : List Put). put_all ps store a.name) (puts_by (rises named (f (unwrap_or (name_at t.leaves c) []))) c refl)
        ∙ by_rise c first (rises named (f (unwrap_or (name_at t.leaves c) []))) refl

    within_by : (o : Option ℕ) → list_all (is_within store) (all_written ns f named (whole_block o)) ≡ true
    within_by None = refl
    within_by (Some c) =
        ap (list_all (is_within store)) (puts_by (rises named (f (unwrap_or (name_at t.leaves c) []))) c refl)
        ∙ by (rises named (f (unwrap_or (name_at t.leaves c) [])))
      where
        all : list_all (is_within store) (flat_map (write_put ns f) (made 0 a.array.writes)) ≡ true
        all = writes_within 0 a.array.writes (λ j w at. let start : 0 + j ≡ j = omega arith in ap (slice_get a.array.writes) start ∙ at) store long_here

        by : (b : Bool) → list_all (is_within store) (if b then flat_map (write_put ns f) (made 0 a.array.writes) ++ [] else []) ≡ true
        by false = refl
        by true = list_all-append (is_within store) (flat_map (write_put ns f) (made 0 a.array.writes)) [] ∙ rw all refl

  abbrev puts_of : ℕ → List Put
  puts_of k = own_puts net t p order is state (regs_once net t p order is) rest.begins.shaped.state_fits tick f k

  -- each array has what the net leaves
  one_array : (k : ℕ) → In net.array_order k
      → put_all (puts_of k) store (array_name t k) ≡ array_after net e clock named state k (slice_get net.arrays k)
  one_array k m =
      let a = array_at net t is.whole is.table k m in
      ap (put_all (puts_of k) store) (name_is net t k a)
      ∙ ap (λ (bs : List AlwaysBlock). put_all (all_written ns f named bs) store a.name) (array_block_is net t p k a)
      ∙ by_clock k m a (first_clock p a.array.writes) refl
      ∙ sym (ap (array_after net e clock named state k) a.at)

  pub arrays_same : flat_map (λ k. put_all (own_puts net t p order is state (regs_once net t p order is) rest.begins.shaped.state_fits tick f k)
      (store_of (variables (in_parts net t p order)) state) (array_name t k)) net.array_order
      ≡ arrays_next net e clock tick.clocks state
  arrays_same =
      flat_same (λ (k : ℕ). put_all (puts_of k) store (array_name t k)) (λ (k : ℕ). array_after net e clock named state k (slice_get net.arrays k))
      net.array_order one_array

  pub arrays_within : (k : ℕ) → In net.array_order k
      → list_all (is_within (store_of (variables (in_parts net t p order)) state))
      (own_puts net t p order is state (regs_once net t p order is) rest.begins.shaped.state_fits tick f k) ≡ true
  arrays_within k m =
      let a = array_at net t is.whole is.table k m in
      ap (λ (bs : List AlwaysBlock). list_all (is_within store) (all_written ns f named bs)) (array_block_is net t p k a)
      ∙ within_by k m a (first_clock p a.array.writes)

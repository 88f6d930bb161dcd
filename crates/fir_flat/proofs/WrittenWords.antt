-- What the writes of a tick leave in the arrays, and what pipes take of them, is the same in a circuit and in its flat net.
use Rattle.std.proofs.Common.{◌≡◌, ℕ, ◌<◌, ◌≤◌, List, [], ◌∷◌, length, map, flat_map, Bool, ◌&&◌, nat_eq, if◌then◌else◌, slice_get, refl, sym, ap, ◌∙◌, ⊎_elim}
use Rattle.std.specs.Prelude.{Option, Some, None}
use Rattle.std.specs.List.{AllByRecursion}
use Rattle.std.proofs.Math.Bool.{and_assoc}
use Rattle.std.proofs.lemmas.Bool.{cases_lt}
use Rattle.std.proofs.lemmas.Option.{slice_get-get_or, slice_get_within}
use Rattle.fir_base.proofs.Elements.{all_there}
use Rattle.fir_base.proofs.Members.{map_same}
use Rattle.fir_ast.specs.declared.statements.ReadUnderWrite.{ReadUnderWrite}
use Rattle.fir_ast.specs.declared.statements.ReadUnderWrite.TheVariants.{New, Old, Undefined}
use Rattle.fir_bits.specs.working.Operators.{type_of}
use Rattle.fir_bits.specs.declared.types.NumTy.{NumTy}
use Rattle.fir_meaning.specs.ClockEdges.{has_edge}
use Rattle.fir_meaning.specs.LeafTypes.{LeafType}
use Rattle.fir_meaning.specs.MemoryWords.{addresses as memory_addresses}
use Rattle.fir_meaning.specs.Values.{number_of}
use Rattle.fir_meaning.specs.working.LeafCircuits.{LeafCircuit}
use Rattle.fir_meaning.specs.working.LeafModules.{LeafArray, Reading, Writing}
use Rattle.fir_meaning.specs.working.LeafStates.{array_of, no_array}
use Rattle.fir_meaning.specs.working.Memories.{are_met, array_next, word_before, word_written, writes_at}
use Rattle.fir_meaning.specs.working.Memories as memory
use Rattle.fir_meaning.specs.working.TermValues.{Env}
use Rattle.fir_memory_types.specs.working.TypedMemories.{AreNeedsTyped, IsReadingTyped, IsWritingTyped}
use Rattle.fir_net.specs.declared.array.Array.{Array}
use Rattle.fir_net.specs.declared.array.ArrayRead.{ArrayRead}
use Rattle.fir_net.specs.declared.array.ArrayWrite.{ArrayWrite}
use Rattle.fir_net.specs.declared.array.Pipe.{Pipe}
use Rattle.fir_net.specs.declared.net.FlatNet.{FlatNet}
use Rattle.fir_net.specs.declared.reads.Read.{Read}
use Rattle.fir_net.specs.declared.reads.Read.TheVariants as read
use Rattle.fir_net.specs.working.Arrays.{addresses, begin_of, word_in}
use Rattle.fir_net.specs.working.IsNet.{IsAddressed, IsArray, IsArrayWrite, IsClock, read_type}
use Rattle.fir_net.specs.working.Next.{array_after, arrays_next, is_written, piped, read_left, ticks, word_after, word_left}
use Rattle.fir_net.specs.working.Settled.{is_high, value_at, word_read}
use Rattle.fir_net.specs.working.Values.{at_width}
use Rattle.fir_flat.specs.working.FlatCircuits.{AreWritesOf, IsPipeOf, IsReadingOf, IsWriteOf, is_new}
use Rattle.fir_flat.specs.working.FlatLaws.{IsFaithful}
use Rattle.fir_flat.proofs.BesideValues.{own_number}
use Rattle.fir_flat.proofs.FlatArrays.{addresses_same, array_there, flat_map_same, no_addresses, no_more_arrays, no_more_words, word_is}
use Rattle.fir_flat.proofs.KeptValues.{AreBeside}
use Rattle.fir_flat.proofs.ReadWords.{address_is, enabled, leaf_number, reads_any, reads_where, word_read_is}

pub edge_is : (named : List ℕ) (o : Option ℕ) → ticks named o ≡ has_edge named o
edge_is named None = refl
edge_is named (Some k) = refl

module _ (c : LeafCircuit) (net : FlatNet) (faithful : IsFaithful c net) (env : Env) (e : ℕ → ℕ) (f : ℕ → Option ℕ) (beside : AreBeside c net env e f)
    (named : List ℕ) where
  -- a clock leaf has an edge in both
  pub ticks_where : (k x : ℕ) → IsClock net.leaves k → k ≡ x → ticks named (f k) ≡ has_edge named (env.clocks x)
  ticks_where k x is same = ap (ticks named) (beside.clocks k is.0 is.1 is.2 ∙ ap env.clocks same) ∙ edge_is named (env.clocks x)

  module _ (signed : Bool) (width : ℕ) (h : LeafType) where
    abbrev CanWrite : ArrayWrite → Type 0
    CanWrite = IsArrayWrite net.leaves net.nodes signed width

    -- of one write
    module _ (w : ArrayWrite) (m : Writing) (is : IsWriteOf net.nodes w m) (can : CanWrite w) (typed : AreNeedsTyped c.leaves m.needs) where
      written_where : (address : ℕ) → is_written net e f named w address ≡ writes_at named env m address
      written_where address =
          let number = (value_at net e w.address).value.number in
          let edge = has_edge named (env.clocks m.clock) in
          let met = are_met env.numbers m.needs in
          ap (λ (b : Bool). b && (is_high net e w.condition && nat_eq number address)) (ticks_where w.clock m.clock can.clock is.clock)
          ∙ ap (λ (b : Bool). edge && (b && nat_eq number address))
          (enabled c net faithful env e beside.numbers w.condition m.needs can.addressed.enable is.condition typed)
          ∙ ap (λ (n : ℕ). edge && (met && nat_eq n address))
          (leaf_number c net faithful env e beside.numbers w.address m.address can.addressed.address is.address)
          ∙ sym (and_assoc edge met (nat_eq (env.numbers m.address) address))

      given_type : type_of (value_at net e w.given) ≡ record { signed = signed; width = width }
      given_type =
          let own : read_type net.leaves net.nodes (read.Leaf m.given) ≡ record { signed = signed; width = width } =
          ap (read_type net.leaves net.nodes) (sym is.given) ∙ can.has_type in
          ap (λ (r : Read). type_of (value_at net e r)) is.given ∙ ap (λ (t : NumTy). type_of (number_of t (e m.given))) own

      given_is : at_width (value_at net e w.given) width ≡ env.numbers m.given
      given_is =
          own_number (value_at net e w.given) (record { signed = signed; width = width }) width given_type refl
          ∙ leaf_number c net faithful env e beside.numbers w.given m.given can.given is.given

    -- of all writes
    words_after : (ws : List ArrayWrite) (ms : List Writing) → AreWritesOf net.nodes ws ms → AllByRecursion CanWrite ws
        → AllByRecursion (IsWritingTyped c.leaves h) ms → (address word : ℕ)
        → word_after net e f named width ws address word ≡ memory.word_after named env ms address word
    words_after [] [] are can typed address word = refl
    words_after [] (m ∷ ms) are can typed address word = absurd are
    words_after (w ∷ ws) [] are can typed address word = absurd are
    words_after (w ∷ ws) (m ∷ ms) are can typed address word =
        let given = at_width (value_at net e w.given) width in
        words_after ws ms are.1 can.1 typed.1 address (if is_written net e f named w address then given else word)
        ∙ ap (memory.word_after named env ms address)
        (ap (λ (b : Bool). if b then given else word) (written_where w m are.0 can.0 typed.0.needs address)
        ∙ ap (λ (n : ℕ). if writes_at named env m address then n else word) (given_is w m are.0 can.0 typed.0.needs))

  module _ (state : List ℕ) where
    -- of an array that is there
    module _ (k : ℕ) (inside : k < length c.arrays) where
      word_written_is : (a : Array) → slice_get net.arrays k ≡ Some a → (address : ℕ)
          → word_after net e f named a.width a.writes address (word_in state (begin_of net k) address) ≡ word_written c state named env k address
      word_written_is a at address =
          let own = slice_get-get_or c.arrays k no_array inside in
          let is = faithful.flat.arrays k a (array_of c k) at own in
          let can = all_there (IsArray net.leaves net.nodes) net.arrays faithful.whole.arrays k a at in
          let typed = faithful.memories.arrays_typed k (array_of c k) own in
          words_after a.signed a.width (array_of c k).holds a.writes (array_of c k).writings is.writes can.writes typed.writings address
          (word_in state (begin_of net k) address)
          ∙ ap (memory.word_after named env (array_of c k).writings address) (word_is c net faithful.flat state k address)

      word_left_is : (address : ℕ) → word_left net e f named state k address (slice_get net.arrays k) ≡ word_written c state named env k address
      word_left_is address =
          let both = array_there c net faithful.flat k inside in
          ap (word_left net e f named state k address) both.at ∙ word_written_is both.array both.at address

      array_inside : array_after net e f named state k (slice_get net.arrays k) ≡ array_next c state named env k
      array_inside =
          let both = array_there c net faithful.flat k inside in
          let a = both.array in
          ap (array_after net e f named state k) both.at
          ∙ map_same (λ (address : ℕ). word_after net e f named a.width a.writes address (word_in state (begin_of net k) address))
          (word_written c state named env k) (addresses 0 a.words) (λ address m. word_written_is a both.at address)
          ∙ ap (λ (n : ℕ). map (word_written c state named env k) (addresses 0 n)) both.is.words
          ∙ ap (map (word_written c state named env k)) (addresses_same 0 (array_of c k).words)

    -- past the end there are no words
    array_past : (k : ℕ) → length c.arrays ≤ k → array_after net e f named state k (slice_get net.arrays k) ≡ array_next c state named env k
    array_past k past =
        let words : (array_of c k).words ≡ 0 = ap (λ (a : LeafArray). a.words) (no_more_words c net faithful.flat k past) in
        ap (array_after net e f named state k) (no_more_arrays c net faithful.flat k past)
        ∙ sym (ap (λ (n : ℕ). map (word_written c state named env k) (memory_addresses 0 n)) words
        ∙ ap (map (word_written c state named env k)) no_addresses)

    array_is : (k : ℕ) → array_after net e f named state k (slice_get net.arrays k) ≡ array_next c state named env k
    array_is k = ⊎_elim (array_inside k) (array_past k) (cases_lt k (length c.arrays))

    pub arrays_same : arrays_next net e f named state ≡ memory.arrays_next c state named env
    arrays_same =
        flat_map_same (λ (k : ℕ). array_after net e f named state k (slice_get net.arrays k)) (array_next c state named env) array_is net.array_order
        ∙ ap (λ (ks : List ℕ). flat_map (array_next c state named env) ks) faithful.flat.array_order

    -- what a pipe takes
    module _ (r : ArrayRead) (m : Reading) (h : LeafType) (is : IsReadingOf net.nodes r m) (can : IsAddressed net.leaves net.nodes r.address r.enable)
        (typed : IsReadingTyped c.leaves c.arrays h m) where
      read_left_is : read_left net e f named state r ≡ memory.read_after c state named env m
      read_left_is =
          let number = (value_at net e r.address).value.number in
          let inside = slice_get_within c.arrays m.array typed.array typed.is_there in
          ap (λ (b : Bool). if b then word_left net e f named state r.array number (slice_get net.arrays r.array) else 0)
          (reads_where c net faithful env e beside.numbers r m is can typed.needs)
          ∙ ap (λ (n : ℕ). if reads_any c env m then n else 0)
          (ap (λ (k : ℕ). word_left net e f named state k number (slice_get net.arrays k)) is.array
          ∙ ap (λ (n : ℕ). word_left net e f named state m.array n (slice_get net.arrays m.array))
          (address_is c net faithful env e beside.numbers r m is can typed.needs)
          ∙ word_left_is m.array inside (env.numbers m.address))

      taken_is : (under : ReadUnderWrite)
          → (if is_new under then read_left net e f named state r else word_read net state e r) ≡ memory.piped c state named env m under
      taken_is New = read_left_is
      taken_is Old = word_read_is c net faithful env e beside.numbers r m is can typed.needs state
      taken_is Undefined = word_read_is c net faithful env e beside.numbers r m is can typed.needs state

    pub piped_is : (p : Pipe) (m : Reading) (clock : ℕ) (under : ReadUnderWrite) (h : LeafType) → IsPipeOf net.nodes p m clock under
        → IsAddressed net.leaves net.nodes p.read.address p.read.enable → IsReadingTyped c.leaves c.arrays h m
        → piped net e f named state p ≡ memory.piped c state named env m under
    piped_is p m clock under h is can typed =
        ap (λ (b : Bool). if b then read_left net e f named state p.read else word_read net state e p.read) is.moment
        ∙ taken_is p.read m h is.read can typed under
